use Rattle.std.proofs.Common.{ℤ, [], ◌∷◌, Option, sym, subst, rules}
use Rattle.std.specs.Int.{w128}
use Rattle.std.specs.Io.KnownBytes.{Appends}
use Rattle.std.proofs.lemmas.Int.{to_z-of_z}
use Rattle.pit_num.specs.Printed.{fixed_text}
use Rattle.pit_num.proofs.CallerLemmas.{appends_more, map_ok}
use Rattle.pit_table.specs.CsvText.{amount_cell}
use Rattle.pit_table.proofs.csv_text.write_amount_cell.Goals as goal

pub returns : goal.returns
returns g c =
    let start = g.W.Sink.contents c.args.w.now in
    let first = g.W.Sink.contents c.write_text.new.w in
    let end = g.W.Sink.contents c.write_micro.new.w in
    map_ok c.write_micro.result
    (λ after.
    subst (λ (p : Option ℤ). Appends start end (44 ∷ amount_cell p)) (sym c.in-Some.is)
    (appends_more start first end (44 ∷ []) (fixed_text 6 c.in-Some.z) c.in_ok-write_text.ensures.ok
    (subst (λ (z : ℤ). Appends first end (fixed_text 6 z)) (to_z-of_z w128 c.in-Some.z (search rules)) after)))
    c.write_micro.ensures.ok
