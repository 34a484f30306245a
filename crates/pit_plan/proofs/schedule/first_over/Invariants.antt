use Rattle.std.proofs.Common.{ℕ, ◌<◌}
use Rattle.pit_plan.specs.Schedule.{by_block}
use Rattle.pit_plan.specs.Limits.{at_cell}
use Rattle.pit_plan.specs.Breaches.{IsOverLimit}
use Rattle.pit_plan.proofs.schedule.first_over.Given as goal

abbrev pub invariant-loop-t : goal.invariant-loop-t
invariant-loop-t g l = (p : ℕ × ℕ) → p.0 < l.t → IsOverLimit l.pit (by_block l.tally.periods) (at_cell l.pit (g.L.Limits.limit_in l.limits)) p → ⊥
