use Rattle.std.proofs.Common.{refl}
use Rattle.std.proofs.lemmas.Result.{IfOk-weaker, IfErr-weaker}
use Rattle.pit_plan.proofs.Same.{shortfalls-of, shortfalls-some}
use Rattle.pit_plan.proofs.plan_view.PlanView.shortfalls.Goals as goal

pub returns-clause-shorts : goal.returns-clause-shorts
returns-clause-shorts g c = IfOk-weaker c.shortfalls.result _ _ (λ shorts is. shortfalls-of _ _ _ _ c.self.view_is refl is) c.shortfalls.ensures.shorts

pub returns-clause-refused : goal.returns-clause-refused
returns-clause-refused g c = IfErr-weaker c.shortfalls.result _ _ (λ e some. shortfalls-some _ _ _ c.self.view_is refl some) c.shortfalls.ensures.refused
