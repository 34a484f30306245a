use Rattle.std.proofs.Common.{◌≡◌, take}
use Rattle.pit_plan.specs.Inside.Plan.{with_writes}
use Rattle.pit_plan.proofs.plan_view.write_versions.Given as goal

abbrev pub invariant-loop-block : goal.invariant-loop-block
invariant-loop-block g l = l.versions.items ≡ with_writes (λ w. l.number) l.fn.versions.items (take l.block-index l.writes)
