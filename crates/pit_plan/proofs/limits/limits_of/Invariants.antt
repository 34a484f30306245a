use Rattle.std.proofs.Common.{◌≡◌, take, map}
use Rattle.pit_plan.proofs.limits.limits_of.Given as goal

abbrev pub invariant-loop-cell : goal.invariant-loop-cell
invariant-loop-cell g l = l.limits.items ≡ map (λ bounds. bounds.1) (take l.cell l.pit.bounds)
