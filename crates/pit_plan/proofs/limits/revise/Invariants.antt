use Rattle.std.proofs.Common.{◌≡◌, take}
use Rattle.pit_model.specs.Fitting.{revisions_of}
use Rattle.pit_plan.specs.Inside.Plan.{with_writes}
use Rattle.pit_plan.specs.Inside.Limits.{by_cell}
use Rattle.pit_plan.proofs.limits.revise.Given as goal

abbrev pub invariant-loop-resource : goal.invariant-loop-resource
invariant-loop-resource g l = l.limits.items ≡ with_writes (λ v. v.1) l.fn.limits.items (take l.resource-index (by_cell l.pit (revisions_of l.revises)))
