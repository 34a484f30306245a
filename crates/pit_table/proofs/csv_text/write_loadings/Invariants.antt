use Rattle.std.proofs.Common.{List}
use Rattle.std.specs.Prelude.{flat_map}
use Rattle.std.specs.List.{range_with_len}
use Rattle.std.specs.Io.KnownBytes.{Appends}
use Rattle.pit_plan.specs.Schedule.{Commit, held_period, limit_of}
use Rattle.pit_plan.specs.Standing.{IsPlanOf}
use Rattle.pit_table.specs.Rows.{loading_of}
use Rattle.pit_table.specs.CsvText.{behind_commas, loading_cells}
use Rattle.pit_table.proofs.csv_text.write_loadings.Given as goal

abbrev pub invariant-loop-r : goal.invariant-loop-r
invariant-loop-r g l =
    (commits : List Commit) → IsPlanOf l.plan commits
    → Appends (g.W.Sink.contents l.fn.w) (g.W.Sink.contents l.w)
    (behind_commas (flat_map (λ r. loading_cells (loading_of l.plan.pit (held_period commits) (limit_of l.plan.pit commits) l.t r)) (range_with_len 0 l.r)))
