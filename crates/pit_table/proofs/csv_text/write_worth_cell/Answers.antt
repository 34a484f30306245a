use Rattle.std.proofs.Common.{ℤ, [], ◌∷◌, subst}
use Rattle.std.specs.Int.{w128}
use Rattle.std.specs.Io.KnownBytes.{Appends}
use Rattle.std.proofs.lemmas.Int.{to_z-of_z}
use Rattle.pit_num.specs.Printed.{fixed_text}
use Rattle.pit_num.proofs.CallerLemmas.{appends_more, map_ok}
use Rattle.pit_table.proofs.csv_text.write_worth_cell.Goals as goal

pub returns : goal.returns
returns g c =
    let start = g.W.Sink.contents c.args.w.now in
    let first = g.W.Sink.contents c.write_text.new.w in
    let end = g.W.Sink.contents c.write_value.new.w in
    map_ok c.write_value.result
    (λ after.
    appends_more start first end (44 ∷ []) (fixed_text 18 c.args.value) c.in_ok-write_text.ensures.ok
    (subst (λ (z : ℤ). Appends first end (fixed_text 18 z)) (to_z-of_z w128 c.args.value c.ranges.value) after))
    c.write_value.ensures.ok
