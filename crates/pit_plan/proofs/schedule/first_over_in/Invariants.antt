use Rattle.std.proofs.Common.{ℕ, ◌<◌}
use Rattle.pit_plan.specs.Schedule.{by_block}
use Rattle.pit_plan.specs.Limits.{at_cell}
use Rattle.pit_plan.specs.Breaches.{IsOverLimit}
use Rattle.pit_plan.proofs.schedule.first_over_in.Given as goal

abbrev pub invariant-loop-r : goal.invariant-loop-r
invariant-loop-r g l = (r : ℕ) → r < l.r → IsOverLimit l.pit (by_block l.tally.periods) (at_cell l.pit (g.L.Limits.limit_in l.limits)) (l.t, r) → ⊥
