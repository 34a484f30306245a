use Rattle.std.proofs.Common.{take}
use Rattle.pit_model.specs.Fitting.{revisions_of}
use Rattle.pit_plan.specs.Inside.Limits.{by_cell}
use Rattle.pit_plan.specs.Inside.Touched.{LooksAt}
use Rattle.pit_plan.proofs.moving.look_at_revised.Given as goal

abbrev pub invariant-loop-resource : goal.invariant-loop-resource
invariant-loop-resource g l =
    LooksAt (take l.resource-index (by_cell l.pit (revisions_of l.revises))) l.fn.loads.kept.now l.fn.loads.cells l.loads.kept.now l.loads.cells
