use Rattle.std.proofs.Common.{ℤ, [], ◌∷◌, decimal, subst, rules}
use Rattle.std.specs.Int.{w128}
use Rattle.std.specs.Io.KnownBytes.{Appends}
use Rattle.std.proofs.lemmas.Int.{to_z-of_z}
use Rattle.pit_num.specs.Printed.{fixed_text}
use Rattle.pit_num.proofs.CallerLemmas.{appends_more, map_ok}
use Rattle.pit_table.proofs.Pieces.{three-cells}
use Rattle.pit_table.proofs.csv_text.write_mined.Goals as goal

pub returns : goal.returns
returns g c =
    let start = g.W.Sink.contents c.args.w.now in
    let first = g.W.Sink.contents c.write_text.new.w in
    let second = g.W.Sink.contents c.write_whole.new.w in
    let third = g.W.Sink.contents c.write_worth_cell.new.w in
    let end = g.W.Sink.contents c.write_worth_cell-2.new.w in
    let blocks = decimal c.args.mined.blocks in
    map_ok c.write_worth_cell-2.result
    (λ after.
    three-cells start second third end blocks (fixed_text 18 c.args.mined.value) (fixed_text 18 c.args.cumulative)
    (appends_more start first second (44 ∷ []) blocks c.in_ok-write_text.ensures.ok c.in_ok-write_whole.ensures.ok)
    (subst (λ (z : ℤ). Appends second third (44 ∷ fixed_text 18 z)) (to_z-of_z w128 c.args.mined.value (search rules)) c.in_ok-write_worth_cell.ensures)
    (subst (λ (z : ℤ). Appends third end (44 ∷ fixed_text 18 z)) (to_z-of_z w128 c.args.cumulative c.ranges.cumulative) after))
    c.write_worth_cell-2.ensures
