use Rattle.std.proofs.Common.{refl}
use Rattle.pit_plan.proofs.Same.{breach-of}
use Rattle.pit_plan.proofs.plan_view.PlanView.check.Goals as goal

pub returns : goal.returns
returns g c = breach-of _ _ _ _ c.self.view_is refl c.self.invariant.sound c.first_breach.ensures
