use Rattle.std.proofs.Common.{◌++◌, codes, decimal}
use Rattle.pit_num.proofs.CallerLemmas.{map_ok}
use Rattle.pit_table.proofs.Pieces.{four-cells}
use Rattle.pit_table.proofs.csv_text.write_names_of.Goals as goal

pub returns : goal.returns
returns g c =
    let start = g.W.Sink.contents c.args.w.now in
    let first = g.W.Sink.contents c.write_name.new.w in
    let second = g.W.Sink.contents c.write_name-2.new.w in
    let third = g.W.Sink.contents c.write_name-3.new.w in
    let end = g.W.Sink.contents c.write_name-4.new.w in
    let r = decimal c.args.r in
    map_ok c.write_name-4.result
    (λ after.
    four-cells start first second third end (codes "load_" ++ r) (codes "lower_" ++ r) (codes "upper_" ++ r) (codes "room_" ++ r) c.in_ok-write_name.ensures c.in_ok-write_name-2.ensures
    c.in_ok-write_name-3.ensures after)
    c.write_name-4.ensures
