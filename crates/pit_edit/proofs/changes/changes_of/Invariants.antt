use Rattle.std.proofs.Common.{◌≡◌}
use Rattle.pit_plan.specs.Standing.{period_of}
use Rattle.pit_edit.specs.Changes.{changes_of}
use Rattle.pit_edit.proofs.changes.changes_of.Given as goal

abbrev pub invariant-loop-b : goal.invariant-loop-b
invariant-loop-b g l = l.changes.items ≡ changes_of l.b l.edit (period_of l.plan)
