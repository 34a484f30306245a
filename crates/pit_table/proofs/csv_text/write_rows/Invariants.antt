use Rattle.std.proofs.Common.{◌≡◌, List}
use Rattle.std.specs.Prelude.{flat_map}
use Rattle.std.specs.List.{range_with_len}
use Rattle.std.specs.Io.KnownBytes.{Appends}
use Rattle.pit_plan.specs.Sums.{total}
use Rattle.pit_plan.specs.Schedule.{Commit, held_period, limit_of}
use Rattle.pit_plan.specs.Standing.{IsPlanOf}
use Rattle.pit_table.specs.Rows.{row_of}
use Rattle.pit_table.specs.CsvText.{row_text, row_cells}
use Rattle.pit_table.specs.Inside.Mined.{mined_at}
use Rattle.pit_table.proofs.csv_text.write_rows.Given as goal

abbrev pub invariant-loop-t : goal.invariant-loop-t
invariant-loop-t g l =
    (l.cumulative ≡ total (λ u. (mined_at l.mined u).value) l.t)
    × ((commits : List Commit) → IsPlanOf l.plan commits
    → Appends (g.W.Sink.contents l.fn.w) (g.W.Sink.contents l.w) (flat_map (λ t. row_text (row_cells (row_of l.plan.pit (held_period commits) (limit_of l.plan.pit commits) t))) (range_with_len 0 l.t)))
