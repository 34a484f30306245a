use Rattle.std.proofs.Common.{ℕ, List}
use Rattle.std.specs.Prelude.{flat_map}
use Rattle.std.specs.List.{range_with_len}
use Rattle.std.specs.Io.KnownBytes.{Appends}
use Rattle.pit_plan.specs.Schedule.{Commit}
use Rattle.pit_plan.specs.Standing.{IsPlanOf}
use Rattle.pit_diff.specs.Inside.Cells.{cell_change}
use Rattle.pit_diff.proofs.cells.write_cells.Given as goal

abbrev pub invariant-loop-t : goal.invariant-loop-t
invariant-loop-t g l =
    (before after : List Commit) → IsPlanOf l.old before → IsPlanOf l.new after
    → Appends (g.W.Sink.contents l.fn.w) (g.W.Sink.contents l.w)
    (flat_map (λ (t : ℕ). flat_map (λ (r : ℕ). cell_change l.quantity l.old.pit before after r t) (range_with_len 0 l.old.pit.resources)) (range_with_len 0 l.t))
