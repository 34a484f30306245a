use Rattle.std.proofs.Common.{decimal}
use Rattle.pit_num.proofs.CallerLemmas.{appends_more, map_ok}
use Rattle.pit_table.proofs.csv_text.write_name.Goals as goal

pub returns : goal.returns
returns g c =
    let start = g.W.Sink.contents c.args.w.now in
    let first = g.W.Sink.contents c.write_text.new.w in
    let end = g.W.Sink.contents c.write_whole.new.w in
    map_ok c.write_whole.result (λ after. appends_more start first end c.args.word.now (decimal c.args.r) c.in_ok-write_text.ensures.ok after) c.write_whole.ensures.ok
