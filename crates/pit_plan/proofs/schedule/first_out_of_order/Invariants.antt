use Rattle.std.proofs.Common.{ℕ, ◌<◌}
use Rattle.pit_plan.specs.Schedule.{by_block}
use Rattle.pit_plan.specs.Breaches.{IsOutOfOrder}
use Rattle.pit_plan.proofs.schedule.first_out_of_order.Given as goal

abbrev pub invariant-loop-b : goal.invariant-loop-b
invariant-loop-b g l = (p : ℕ × ℕ) → p.0 < l.b → IsOutOfOrder l.pit (by_block l.tally.periods) p → ⊥
