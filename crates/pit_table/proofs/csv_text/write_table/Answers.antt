use Rattle.std.proofs.Common.{ℕ, List, ap, subst, ◌∙◌}
use Rattle.std.specs.Prelude.{flat_map}
use Rattle.std.specs.List.{range_with_len}
use Rattle.std.specs.Io.KnownBytes.{Appends}
use Rattle.pit_num.proofs.CallerLemmas.{appends_more, map_ok}
use Rattle.pit_model.specs.Pit.{Pit}
use Rattle.pit_plan.specs.Schedule.{held_period, limit_of}
use Rattle.pit_table.specs.Rows.{row_of}
use Rattle.pit_table.specs.CsvText.{row_text, row_cells, name_cells}
use Rattle.pit_table.proofs.Pieces.{table-pieces}
use Rattle.pit_table.proofs.csv_text.write_table.Goals as goal

pub returns : goal.returns
returns g c =
    let pit = c.args.plan.now.pit in
    let start = g.W.Sink.contents c.args.w.now in
    let first = g.W.Sink.contents c.write_names.new.w in
    let end = g.W.Sink.contents c.write_rows.new.w in
    map_ok c.write_rows.result
    (λ after commits stands.
    subst (λ (xs : List ℕ). Appends start end xs) (table-pieces pit (held_period commits) (limit_of pit commits))
    (appends_more start first end (row_text (name_cells pit.resources)) (flat_map (λ t. row_text (row_cells (row_of pit (held_period commits) (limit_of pit commits) t))) (range_with_len 0 pit.periods))
    (subst (λ (n : ℕ). Appends start first (row_text (name_cells n))) (c.resources.ensures ∙ ap (λ (p : Pit). p.resources) c.deposit.ensures) c.in_ok-write_names.ensures) (after commits stands)))
    c.write_rows.ensures
