use Rattle.std.proofs.Common.{◌≡◌, ℕ, ◌<◌, true, get_or}
use Rattle.pit_model.specs.Pit.{succs_of}
use Rattle.pit_plan.specs.Schedule.{in_order}
use Rattle.pit_plan.proofs.judging.out_behind.Given as goal

abbrev pub invariant-loop-later : goal.invariant-loop-later
invariant-loop-later g l =
    (l.before ≡ g.S.Schedule.period_at l.schedule l.b)
    × ((k : ℕ) → k < l.later-index → in_order (g.S.Schedule.period_at l.schedule (get_or (succs_of l.pit l.b) k 0)) (g.S.Schedule.period_at l.schedule l.b) ≡ true)
