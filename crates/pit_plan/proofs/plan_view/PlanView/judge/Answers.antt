use Rattle.std.proofs.Common.{◌≡◌, ℤ, List, Option, IfOk, ap, subst, sym, ◌∙◌}
use Rattle.std.proofs.lemmas.Result.{IfOk-weaker}
use Rattle.pit_model.specs.Pit.{Pit}
use Rattle.pit_model.specs.Fitting.{RevisionsFit, revisions_of}
use Rattle.pit_plan.specs.Schedule.{by_block}
use Rattle.pit_plan.specs.Standing.{Standing}
use Rattle.pit_plan.specs.Breaches.{IsGood, IsFirstBreach}
use Rattle.pit_plan.specs.Limits.{cell_limit, at_cell}
use Rattle.pit_plan.specs.Inside.Limits.{by_cell}
use Rattle.pit_plan.specs.Inside.Touched.{overlaid_item}
use Rattle.pit_plan.proofs.Same.{breach-after}
use Rattle.pit_plan.proofs.plan_view.PlanView.judge.Goals as goal

pub returns-clause-breach : goal.returns-clause-breach
returns-clause-breach g c =
    let s = by_block c.self.inside.tally.periods in
    let same : c.args.pit.now ≡ c.self.inside.pit = c.requires.same ∙ sym (ap (λ (s : Standing). s.pit) c.self.view_is) in
    let revised = subst (λ (s : Standing). RevisionsFit s.pit.resources s.pit.periods (revisions_of c.args.revises.now)) (sym c.self.view_is) c.requires.revises in
    IfOk-weaker c.first_breach_after.result _ _ (λ breach found. breach-after _ _ (record { writes = c.args.writes.now; revises = revisions_of c.args.revises.now }) breach c.self.view_is c.self.invariant.sound revised found c.requires.good)
    (subst (λ (at : Pit × List (Option ℤ)). IfOk c.first_breach_after.result (λ breach. IsGood at.0 s (at_cell at.0 (cell_limit at.1))
    → IsFirstBreach at.0 (overlaid_item s c.args.writes.now) (at_cell at.0 (overlaid_item (cell_limit at.1) (by_cell at.0 (revisions_of c.args.revises.now)))) breach))
    (cc (same, c.deref.ensures.value)) c.first_breach_after.ensures.breach)
