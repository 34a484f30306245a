use Rattle.std.proofs.Common.{◌≡◌, ◌∷◌, [], sym, subst, ◌∙◌}
use Rattle.std.proofs.lemmas.Result.{IfOk-weaker}
use Rattle.pit_model.specs.Pit.{Pit}
use Rattle.pit_plan.specs.Schedule.{Writes}
use Rattle.pit_plan.specs.Standing.{IsPlanOf}
use Rattle.pit_model.specs.Fitting.{Fits, writes_of}
use Rattle.pit_step.proofs.plans.plan_of.Goals as goal

pub applied-requires-clause-fits : goal.applied-requires-clause-fits
applied-requires-clause-fits g c =
    subst (λ (w : Writes). Fits c.in-Ok-empty.plan.pit.blocks c.in-Ok-empty.plan.pit.periods w) (sym c.deref.ensures.value)
    (subst (λ (p : Pit). Fits p.blocks p.periods c.in-Ok.writes.items) (sym c.in-Ok-empty.ensures.ok.0) (c.in-Ok.ensures.fits c.args.pit.blocks c.args.pit.periods c.requires))

pub returns-in-Ok-empty : goal.returns-in-Ok-empty
returns-in-Ok-empty g c =
    let writes : c.deref.result.now ≡ writes_of c.args.schedule.now = c.deref.ensures.value ∙ c.in-Ok.ensures.items in
    IfOk-weaker c.applied.result _ _
    (λ plan is. (is.0 ∙ c.in-Ok-empty.ensures.ok.0, subst (λ (w : Writes). IsPlanOf plan (record { writes = w; revises = [] } ∷ [])) writes is.1))
    c.applied.ensures.value
