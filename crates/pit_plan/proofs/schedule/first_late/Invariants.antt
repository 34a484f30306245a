use Rattle.std.proofs.Common.{◌≡◌, ℕ, ◌<◌, true, get_or}
use Rattle.pit_plan.specs.Schedule.{in_order}
use Rattle.pit_plan.proofs.schedule.first_late.Given as goal

abbrev pub invariant-loop-a : goal.invariant-loop-a
invariant-loop-a g l = (k : ℕ) → k < l.a-index → in_order l.later (g.S.Schedule.period_at l.schedule (get_or l.preds k 0)) ≡ true
