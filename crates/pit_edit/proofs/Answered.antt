-- What an edit was answered.
use Rattle.std.proofs.Common.{◌≡◌, ℕ, ◌≤◌, ◌<◌, List, [], ◌∷◌, length, take, Option, None, IfSome, refl, sym, ap, subst, ◌∙◌, arith}
use Rattle.std.proofs.lemmas.List.Elements.{All-take}
use Rattle.pit_model.specs.Fitting.{Fits}
use Rattle.pit_model.specs.Pit.{Pit}
use Rattle.pit_plan.specs.Schedule.{Commit}
use Rattle.pit_plan.specs.Standing.{Standing}
use Rattle.pit_plan.proofs.CallerLemmas.{held_in_range}
use Rattle.pit_desk.specs.History.{Answered, commits_of}
use Rattle.pit_desk.specs.Legal.{Follows}
use Rattle.pit_desk.proofs.CallerLemmas.{commits-fit}
use Rattle.pit_edit.specs.declared.answer.Answer.{Answer}
use Rattle.pit_edit.specs.Changes.{Edit, base_of, IsEditOn}
use Rattle.pit_edit.specs.Calls.{edit_call}
use Rattle.pit_edit.specs.EditText.{entry_number, edit_cause}
use Rattle.pit_edit.specs.Inside.Answers.{IsAnswerTo, IsAnswerOf}

-- the periods of the base are the pit's
pub base-in_range : (history : List Answered) (plan : Standing) (edit : Edit) → Follows history plan → IsEditOn plan.pit (commits_of history) edit
    → (b : ℕ) → b < plan.pit.blocks → IfSome (base_of edit b) (λ t. t < plan.pit.periods)
base-in_range history plan edit follows on = λ b below.
    subst (λ (p : Option ℕ). IfSome p (λ t. t < plan.pit.periods)) (sym (on.base b below))
    (held_in_range plan.pit.blocks plan.pit.periods (take edit.start (commits_of history)) b
    (All-take (λ (commit : Commit). Fits plan.pit.blocks plan.pit.periods commit.writes) edit.start (commits_of history) (commits-fit history plan follows)))

-- where no block is written
pub unanswered : (pit : Pit) (before : List Answered) (edit : Edit) (blocks : List ℕ) (answer : Answer) → length blocks ≡ 0 → answer ≡ record { entry = None; reply = None; cause = None }
    → IsAnswerOf pit before edit blocks before answer
unanswered pit before edit [] answer none is =
    subst (IsAnswerOf pit before edit [] before) (sym is) (record { entered = (refl, refl); entry_is = refl; cause_is = refl })
unanswered pit before edit (b ∷ blocks) answer none is = absurd (omega (arith, none))

-- where some are
pub answered : (pit : Pit) (before : List Answered) (edit : Edit) (blocks : List ℕ) (after : List Answered) (answer : Answer) → 1 ≤ length blocks
    → IsAnswerTo pit before (edit_call edit blocks) after answer → IsAnswerOf pit before edit blocks after answer
answered pit before edit [] after answer some is = absurd (omega (arith, some))
answered pit before edit (b ∷ blocks) after answer some is =
    let reply = ap (λ (a : Answer). a.reply) is.answer_is in
    record {
      entered = record { due = is.due; reply_is = reply; is_due = is.is_due; after_is = is.after_is };
      entry_is = ap (λ (a : Answer). a.entry) is.answer_is ∙ sym (ap (entry_number before) reply);
      cause_is = ap (λ (a : Answer). a.cause) is.answer_is ∙ sym (ap (edit_cause before edit (b ∷ blocks)) reply);
    }
