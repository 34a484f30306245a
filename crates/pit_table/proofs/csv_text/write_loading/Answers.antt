use Rattle.std.proofs.Common.{ℤ, ◌∷◌, Option, ap, subst, ◌∙◌}
use Rattle.std.specs.Int.{w128}
use Rattle.std.specs.Io.KnownBytes.{Appends}
use Rattle.std.proofs.lemmas.Int.{to_z-of_z}
use Rattle.pit_num.specs.Printed.{fixed_text}
use Rattle.pit_num.proofs.CallerLemmas.{map_ok}
use Rattle.pit_table.specs.CsvText.{amount_cell, room_below}
use Rattle.pit_table.proofs.Pieces.{four-cells}
use Rattle.pit_table.proofs.csv_text.write_loading.Goals as goal

pub returns : goal.returns
returns g c =
    let start = g.W.Sink.contents c.args.w.now in
    let first = g.W.Sink.contents c.write_amount_cell.new.w in
    let second = g.W.Sink.contents c.write_amount_cell-2.new.w in
    let third = g.W.Sink.contents c.write_amount_cell-3.new.w in
    let end = g.W.Sink.contents c.write_amount_cell-4.new.w in
    let load = to_z-of_z w128 c.args.load c.ranges.load in
    map_ok c.write_amount_cell-4.result
    (λ after.
    four-cells start first second third end (fixed_text 6 c.args.load) (amount_cell c.args.lower) (amount_cell c.args.upper) (amount_cell (room_below c.args.upper c.args.load))
    (subst (λ (z : ℤ). Appends start first (44 ∷ fixed_text 6 z)) load c.in_ok-write_amount_cell.ensures)
    (subst (λ (p : Option ℤ). Appends first second (44 ∷ amount_cell p)) c.amount_of.ensures c.in_ok-write_amount_cell-2.ensures)
    (subst (λ (p : Option ℤ). Appends second third (44 ∷ amount_cell p)) c.amount_of-2.ensures c.in_ok-write_amount_cell-3.ensures)
    (subst (λ (p : Option ℤ). Appends third end (44 ∷ amount_cell p)) (c.room_below.ensures ∙ ap (λ (z : ℤ). room_below c.args.upper z) load) after))
    c.write_amount_cell-4.ensures
