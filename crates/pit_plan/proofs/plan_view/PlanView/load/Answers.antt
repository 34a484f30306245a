use Rattle.std.proofs.Common.{◌∙◌, refl, rules}
use Rattle.std.specs.Int.{w128}
use Rattle.std.proofs.lemmas.Int.{to_z-of_z}
use Rattle.pit_plan.proofs.Same.{load-of}
use Rattle.pit_plan.proofs.plan_view.PlanView.load.Goals as goal

pub returns : goal.returns
returns g c = load-of _ _ _ _ _ _ c.self.view_is refl (to_z-of_z w128 c.load.result (search rules) ∙ c.load.ensures)
