use Rattle.std.proofs.Common.{◌≡◌, take}
use Rattle.pit_plan.specs.Inside.Plan.{with_writes}
use Rattle.pit_plan.proofs.overlay.write_periods.Given as goal

abbrev pub invariant-loop-block : goal.invariant-loop-block
invariant-loop-block g l = l.periods.items ≡ with_writes (λ w. w.1) l.fn.periods.items (take l.block-index l.writes)
