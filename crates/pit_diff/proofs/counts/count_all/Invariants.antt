use Rattle.std.proofs.Common.{◌≡◌, length}
use Rattle.pit_plan.specs.Standing.{period_of}
use Rattle.pit_diff.specs.Changes.{moved}
use Rattle.pit_diff.specs.Inside.Table.{IsTableOf}
use Rattle.pit_diff.proofs.counts.count_all.Given as goal

abbrev pub invariant-loop-b : goal.invariant-loop-b
invariant-loop-b g l =
    (length l.counts.items ≡ length l.fn.counts.items) × IsTableOf l.old.pit.periods l.counts.items (moved l.b (period_of l.old) (period_of l.new))
