use Rattle.std.proofs.Common.{◌≡◌, take}
use Rattle.pit_plan.specs.Inside.Plan.{with_writes}
use Rattle.pit_plan.specs.Inside.Totals.{IsTally}
use Rattle.pit_plan.proofs.tally.Tally.write.Given as goal

abbrev pub invariant-loop-block : goal.invariant-loop-block
invariant-loop-block g l = (l.self.periods ≡ with_writes (λ w. w.1) l.fn.self.periods (take l.block-index l.writes)) × IsTally l.pit l.self
