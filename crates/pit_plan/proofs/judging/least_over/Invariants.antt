use Rattle.std.proofs.Common.{take}
use Rattle.pit_num.specs.Least.{ComesBefore, IsLeast}
use Rattle.pit_model.specs.Pit.{cell_of}
use Rattle.pit_plan.specs.Limits.{at_cell}
use Rattle.pit_plan.specs.Inside.Touched.{IsOverAt, IsNamed}
use Rattle.pit_plan.proofs.judging.least_over.Given as goal

abbrev pub invariant-loop-i : goal.invariant-loop-i
invariant-loop-i g l =
    IsLeast ComesBefore (λ p. IsOverAt l.pit (at_cell l.pit (g.L.Limits.limit_in l.limits)) l.cells p × IsNamed (take l.i l.cells) (cell_of l.pit p.1 p.0)) l.least
