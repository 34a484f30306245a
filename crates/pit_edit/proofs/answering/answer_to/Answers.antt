use Rattle.std.proofs.Common.{◌≡◌, ℕ, ◌≤◌, ◌<◌, length, IfSome, sym, ap, subst, ◌∙◌, rules}
use Rattle.std.proofs.lemmas.Result.{IfOk-weaker}
use Rattle.pit_plan.specs.Standing.{Standing}
use Rattle.pit_tx.specs.Sets.{Sets}
use Rattle.pit_desk.specs.History.{Call}
use Rattle.pit_desk.specs.Calls.{work_call}
use Rattle.pit_desk.specs.declared.entry.Act.TheVariants as act
use Rattle.pit_edit.specs.Changes.{base_of}
use Rattle.pit_edit.specs.Inside.Answers.{IsAnswerTo}
use Rattle.pit_edit.proofs.Answered.{base-in_range, unanswered, answered}
use Rattle.pit_edit.proofs.answering.answer_to.Goals as goal

pub returns-then-is_empty-clause-answer : goal.returns-then-is_empty-clause-answer
returns-then-is_empty-clause-answer g c =
    let none : length c.args.kept.now ≡ 0 = search rules in
    unanswered c.args.desk.now.plan.pit c.args.desk.now.history c.args.edit.now c.args.kept.now c.no_answer.result none c.no_answer.ensures

pub work_of-requires-clause-base_in : goal.work_of-requires-clause-base_in
work_of-requires-clause-base_in g c =
    subst (λ (p : Standing). (b : ℕ) → b < p.pit.blocks → IfSome (base_of c.args.edit.now b) (λ t. t < p.pit.periods)) (sym c.plan.ensures.plan)
    (base-in_range c.args.desk.now.history c.args.desk.now.plan c.args.edit.now c.plan.ensures.kept.follows c.requires.edit)

pub commit-requires-clause-fits : goal.commit-requires-clause-fits
commit-requires-clause-fits g c = record {
  blocks = ap (λ (s : Sets). s.blocks) c.in_ok-work.ensures ∙ ap (λ (p : Standing). p.pit.blocks) c.plan.ensures.plan;
  periods = ap (λ (s : Sets). s.periods) c.in_ok-work.ensures ∙ ap (λ (p : Standing). p.pit.periods) c.plan.ensures.plan;
  resources = ap (λ (s : Sets). s.resources) c.in_ok-work.ensures ∙ ap (λ (p : Standing). p.pit.resources) c.plan.ensures.plan;
}

pub returns-clause-answer : goal.returns-clause-answer
returns-clause-answer g c =
    let some : 1 ≤ length c.args.kept.now = search (rules, c.if-is_empty.ensures) in
    IfOk-weaker c.commit.result _ _
    (λ answer is.
    answered c.args.desk.now.plan.pit c.args.desk.now.history c.args.edit.now c.args.kept.now c.commit.new.desk.history answer some
    (subst (λ (call : Call). IsAnswerTo c.args.desk.now.plan.pit c.args.desk.now.history call c.commit.new.desk.history answer) (ap (λ (s : Sets). work_call s act.Commit) c.in_ok-work.ensures) is))
    c.commit.ensures.answer
