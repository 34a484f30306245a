use Rattle.std.proofs.Common.{take}
use Rattle.pit_num.specs.Least.{ComesBefore, IsLeast}
use Rattle.pit_plan.specs.Inside.Touched.{IsOutNear}
use Rattle.pit_plan.proofs.judging.first_out_near.Given as goal

abbrev pub invariant-loop-block : goal.invariant-loop-block
invariant-loop-block g l = IsLeast ComesBefore (IsOutNear l.pit (g.S.Schedule.period_at l.schedule) (take l.block-index l.writes)) l.least
