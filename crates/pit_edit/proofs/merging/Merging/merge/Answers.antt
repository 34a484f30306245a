use Rattle.std.proofs.Common.{◌≡◌, ◌<◌, sym, ap, subst, ◌∙◌}
use Rattle.std.specs.Prelude.{All}
use Rattle.pit_num.proofs.CallerLemmas.{map_ok}
use Rattle.pit_plan.specs.Standing.{Standing}
use Rattle.pit_desk.specs.Legal.{Follows}
use Rattle.pit_log.specs.Makers.{AreMakers}
use Rattle.pit_edit.specs.Merging.{Merging}
use Rattle.pit_edit.specs.Inside.Reviews.{IsReview}
use Rattle.pit_edit.proofs.Reviewed.{review-known, review-rising}
use Rattle.pit_edit.proofs.Whole.{merged}
use Rattle.pit_edit.proofs.merging.Merging.merge.Goals as goal

pub enter-requires-clause-known : goal.enter-requires-clause-known
enter-requires-clause-known g c =
    let review = c.in_ok-review.review in
    let plan_is : c.plan.result.now ≡ c.args.self.now.desk.plan = c.plan.ensures.plan ∙ ap (λ (m : Merging). m.desk.plan) c.self.view_is in
    subst (λ (p : Standing). All (λ b. b < p.pit.blocks) review.kept.items) plan_is
    (review-known c.args.is_partial c.args.edit.now c.plan.result.now c.deref.result.now review.kept.items review.changes review.left review.conflicts.items c.in_ok-review.ensures)

pub enter-requires-clause-rising : goal.enter-requires-clause-rising
enter-requires-clause-rising g c =
    let review = c.in_ok-review.review in
    review-rising c.args.is_partial c.args.edit.now c.plan.result.now c.deref.result.now review.kept.items review.changes review.left review.conflicts.items c.in_ok-review.ensures

pub returns : goal.returns
returns g c =
    let edit = c.args.edit.now in
    let old : Merging = c.args.self.now in
    let makers = c.deref.result.now in
    let review = c.in_ok-review.review in
    let plan_is : c.plan.result.now ≡ old.desk.plan = c.plan.ensures.plan ∙ ap (λ (m : Merging). m.desk.plan) c.self.view_is in
    let follows = subst (λ (m : Merging). Follows m.desk.history m.desk.plan) c.self.view_is c.plan.ensures.kept.follows in
    let made = subst (AreMakers old.desk.history) (sym c.deref.ensures.value) (subst (λ (m : Merging). AreMakers m.desk.history c.self.inside.makers.items) c.self.view_is c.self.invariant) in
    let reviewed =
    subst (λ (p : Standing). IsReview c.args.is_partial edit p makers review.kept.items review.changes review.left review.conflicts.items) plan_is c.in_ok-review.ensures in
    map_ok c.enter.result
    (λ reported. merged c.args.is_partial edit old c.enter.new.self makers review.kept.items review.changes review.left review.conflicts.items follows made c.requires.seen reviewed reported)
    c.enter.ensures
