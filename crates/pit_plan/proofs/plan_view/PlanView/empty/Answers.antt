use Rattle.std.proofs.Common.{ℕ, List, [], Option, refl, subst}
use Rattle.pit_plan.specs.Standing.{IsPlanOf}
use Rattle.pit_plan.proofs.Slots.{nothing-stands}
use Rattle.pit_plan.proofs.plan_view.PlanView.empty.Goals as goal

pub returns-in-Ok-clause-ok : goal.returns-in-Ok-clause-ok
returns-in-Ok-clause-ok g c = (
  refl,
  subst (λ (slots : List (Option ℕ) × List ℕ). IsPlanOf (record { pit = c.args.pit; commits = 0; periods = slots.0; versions = slots.1; limits = c.in-Ok.limits.items }) []) (cc (c.in-Ok.ensures.periods, c.in-Ok.ensures.versions))
      (nothing-stands c.args.pit c.in-Ok.limits.items c.in-Ok.ensures.limits),
)
