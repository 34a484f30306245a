use Rattle.std.proofs.Common.{ap, ◌∙◌, refl, rules}
use Rattle.std.specs.Int.{w128}
use Rattle.std.proofs.lemmas.Int.{to_z-of_z}
use Rattle.pit_plan.proofs.Same.{value-of}
use Rattle.pit_plan.proofs.plan_view.PlanView.value.Goals as goal

pub returns : goal.returns
returns g c =
    value-of _ _ _ _ c.self.view_is refl
    (to_z-of_z w128 _ (search rules) ∙ (ap (λ inside. inside.tally.worth) c.self-inside.view_is ∙ c.self.invariant.tally_is.totals.value))
