use Rattle.std.proofs.Common.{take}
use Rattle.pit_plan.specs.Inside.Touched.{AreMoved}
use Rattle.pit_plan.proofs.moving.moved_loads.Given as goal

abbrev pub invariant-loop-k : goal.invariant-loop-k
invariant-loop-k g l = AreMoved l.pit l.tally (take l.k l.writes) l.loads.kept.now l.loads.cells
