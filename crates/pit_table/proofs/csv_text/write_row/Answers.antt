use Rattle.std.proofs.Common.{ℕ, ℤ, List, [], ◌∷◌, ◌++◌, decimal, ap, subst, ◌∙◌}
use Rattle.std.specs.Prelude.{flat_map}
use Rattle.std.specs.List.{range_with_len}
use Rattle.std.specs.Int.{w128}
use Rattle.std.specs.Io.KnownBytes.{Appends}
use Rattle.std.proofs.lemmas.Int.{to_z-of_z}
use Rattle.pit_num.specs.Printed.{fixed_text}
use Rattle.pit_num.proofs.CallerLemmas.{appends_more, map_ok}
use Rattle.pit_plan.specs.Schedule.{held_period, limit_of}
use Rattle.pit_table.specs.Rows.{loading_of}
use Rattle.pit_table.specs.CsvText.{behind_commas, row_text, loading_cells}
use Rattle.pit_table.proofs.Pieces.{row-pieces, loadings-map}
use Rattle.pit_table.proofs.csv_text.write_row.Goals as goal

pub returns : goal.returns
returns g c =
    let pit = c.args.plan.now.pit in
    let t = c.args.t in
    let start = g.W.Sink.contents c.args.w.now in
    let first = g.W.Sink.contents c.write_whole.new.w in
    let second = g.W.Sink.contents c.write_mined.new.w in
    let third = g.W.Sink.contents c.write_loadings.new.w in
    let end = g.W.Sink.contents c.write_text.new.w in
    let front = decimal c.args.mined.blocks ∷ fixed_text 18 c.args.mined.value ∷ fixed_text 18 c.args.cumulative ∷ [] in
    map_ok c.write_text.result
    (λ after commits stands.
    let schedule = held_period commits in
    let limit = limit_of pit commits in
    let cells = flat_map (λ r. loading_cells (loading_of pit schedule limit t r)) (range_with_len 0 pit.resources) in
    subst (λ (xs : List ℕ). Appends start end xs)
    (row-pieces (decimal t) front cells ∙ ap (λ (more : List (List ℕ)). row_text (decimal t ∷ (front ++ more))) (loadings-map pit schedule limit t (range_with_len 0 pit.resources)))
    (appends_more start first end (decimal t) (behind_commas front ++ (behind_commas cells ++ 10 ∷ [])) c.in_ok-write_whole.ensures.ok
    (appends_more first second end (behind_commas front) (behind_commas cells ++ 10 ∷ [])
    (subst (λ (z : ℤ). Appends first second (behind_commas (decimal c.args.mined.blocks ∷ fixed_text 18 c.args.mined.value ∷ fixed_text 18 z ∷ []))) (to_z-of_z w128 c.args.cumulative c.ranges.cumulative) c.in_ok-write_mined.ensures)
    (appends_more second third end (behind_commas cells) (10 ∷ []) (c.in_ok-write_loadings.ensures commits stands) after))))
    c.write_text.ensures.ok
