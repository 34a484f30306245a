-- What is shown of a text is one, and so is the outcome of the run.
use Rattle.std.proofs.Common.{◌≡◌, ◌≢◌, inl, inr, ℕ, ◌<◌, ◌≤◌, Bool, true, false, List, ◌++◌, length, take, Option, Some, None, IsSome, sym, ap, subst, ◌∙◌, arith}
use Rattle.std.specs.Io.KnownBytes.{Keeps}
use Rattle.pit_model.specs.Pit.{Pit}
use Rattle.pit_plan.specs.Schedule.{Commit}
use Rattle.pit_desk.specs.History.{Answered}
use Rattle.pit_step.specs.declared.input.Input.TheVariants.{Schedule}
use Rattle.pit_step.specs.declared.status.Status.{Status}
use Rattle.pit_step.specs.declared.status.Status.TheVariants.{Fine}
use Rattle.pit_step.specs.declared.fault.CliFault.{CliFault}
use Rattle.pit_step.specs.declared.fault.CliFault.TheVariants.{FewCommits, NoMemory}
use Rattle.pit_step.specs.LineTexts.{left_text}
use Rattle.pit_step.specs.Steps.{in_turn, want_aside, HasOneOutcome}
use Rattle.pit_step.specs.Devices.{Reading, Writing, write_step}
use Rattle.pit_step.specs.Inputs.{model_step}
use Rattle.pit_step.proofs.CallerLemmas.{IsDetermined, IsOneHistory, IsNeverBad, IsOneFault, IsOneText, IsSeen, seen_run, shown_run, in_turn-determined, input-determined, write-determined, write-never_both, model-determined}
use Rattle.pit_state.specs.States.{is_history, IsStateOf}
use Rattle.pit_state.proofs.CallerLemmas.{state_text}
use Rattle.pit_show.specs.Fronts.{IsFront}
use Rattle.pit_show.specs.ShowText.{history_comment}
use Rattle.pit_show.specs.Show.{shown_count, IsHistoryComment, IsCommentBy, IsComment, IsShown, IsTooFew, IsShowFault, show_step, show_run}
use Rattle.pit_show.proofs.OneFront.{one-front}

-- ---- too few commits

few-is : (at : Option ℕ) (commits : List Commit) (fault : CliFault) → IsTooFew at commits fault → (fault ≡ FewCommits (length commits)) × (length commits < shown_count at commits)
few-is (Some asked) commits (FewCommits count) is = (ap FewCommits is.0, is.1)
few-is at commits fault is = absurd is

-- ---- after all commits

module _ (pit : Pit) (text answer : List ℕ) where
  all-asked : (p : IsShown None pit text answer) → IsShown (Some (length p.commits)) pit text answer
  all-asked p = record { commits = p.commits; stands = p.stands; enough = p.enough; comment = p.comment; is_comment = p.is_comment; says = p.says }

  asked-all : (count : ℕ) (p : IsShown (Some count) pit text answer) → count ≡ length p.commits → IsShown None pit text answer
  asked-all count p same = record {
    commits = p.commits;
    stands = p.stands;
    enough = omega arith;
    comment = p.comment;
    is_comment = subst (λ (n : ℕ). IsComment text n p.comment) same p.is_comment;
    says = p.says ∙ ap (λ (n : ℕ). p.comment ++ left_text pit (take n p.commits)) same;
  }

module _ (one_history : IsOneHistory) (never_bad : IsNeverBad) (one_fault : IsOneFault) where
  same_commits : (pit : Pit) (text : List ℕ) (commits other : List Commit) → IsStateOf pit text commits → IsStateOf pit text other → commits ≡ other
  same_commits pit text = (state_text one_history never_bad one_fault Schedule pit text).values

  pub shown_all : (pit : Pit) (text answer : List ℕ) (commits : List Commit) → IsStateOf pit text commits → IsShown None pit text answer → IsShown (Some (length commits)) pit text answer
  shown_all pit text answer commits stands p =
      subst (λ (n : ℕ). IsShown (Some n) pit text answer) (ap length (same_commits pit text p.commits commits p.stands stands)) (all-asked pit text answer p)

  pub all_shown : (pit : Pit) (text answer : List ℕ) (commits : List Commit) → IsStateOf pit text commits → IsShown (Some (length commits)) pit text answer → IsShown None pit text answer
  all_shown pit text answer commits stands p = asked-all pit text answer (length commits) p (ap length (same_commits pit text commits p.commits stands p.stands))

  -- ---- one text

  one_history_comment : (text : List ℕ) (count : ℕ) (comment other : List ℕ) → IsHistoryComment text count comment → IsHistoryComment text count other → comment ≡ other
  one_history_comment text count comment other p q =
      p.says
      ∙ ap history_comment
      (one-front q.entries count p.front q.front (subst (λ (h : List Answered). IsFront h count p.front) (one_history text p.entries q.entries p.stands q.stands) p.is_front) q.is_front)
      ∙ sym q.says

  comment_by : (kind : Bool) (text : List ℕ) (count : ℕ) (comment other : List ℕ) → IsCommentBy kind text count comment → IsCommentBy kind text count other → comment ≡ other
  comment_by true text count comment other p q = one_history_comment text count comment other p q
  comment_by false text count comment other p q = p ∙ sym q

  one_comment : (text : List ℕ) (count : ℕ) (comment other : List ℕ) → IsComment text count comment → IsComment text count other → comment ≡ other
  unfolding IsComment
  one_comment text count comment other p q = comment_by (is_history text) text count comment other p q

  module _ (at : Option ℕ) (pit : Pit) (text : List ℕ) where
    one_shown : (answer other : List ℕ) → IsShown at pit text answer → IsShown at pit text other → answer ≡ other
    one_shown answer other p q =
        let same = same_commits pit text p.commits q.commits p.stands q.stands in
        let comment = one_comment text (shown_count at q.commits) p.comment q.comment
        (subst (λ (commits : List Commit). IsComment text (shown_count at commits) p.comment) same p.is_comment) q.is_comment in
        p.says
        ∙ (ap (λ (commits : List Commit). p.comment ++ left_text pit (take (shown_count at commits) commits)) same
        ∙ (ap (λ (c : List ℕ). c ++ left_text pit (take (shown_count at q.commits) q.commits)) comment ∙ sym q.says))

    shown_apart : (answer : List ℕ) (fault : CliFault) → fault ≢ NoMemory → IsShown at pit text answer → IsShowFault at pit text fault → ⊥
    shown_apart answer fault some p (inl q) = (state_text one_history never_bad one_fault Schedule pit text).apart p.commits fault some p.stands q
    shown_apart answer fault some p (inr q) =
        let enough = subst (λ (commits : List Commit). shown_count at commits ≤ length commits) (same_commits pit text p.commits q.0 p.stands q.1) p.enough in
        let few = few-is at q.0 fault q.2 in
        omega (arith, enough, few.1)

    shown_faults : (fault other : CliFault) → fault ≢ NoMemory → other ≢ NoMemory → IsShowFault at pit text fault → IsShowFault at pit text other → fault ≡ other
    shown_faults fault other some also (inl p) (inl q) = (state_text one_history never_bad one_fault Schedule pit text).faults fault other some also p q
    shown_faults fault other some also (inl p) (inr q) = absurd ((state_text one_history never_bad one_fault Schedule pit text).apart q.0 fault some q.1 p)
    shown_faults fault other some also (inr p) (inl q) = absurd ((state_text one_history never_bad one_fault Schedule pit text).apart p.0 other also p.1 q)
    shown_faults fault other some also (inr p) (inr q) =
        (few-is at p.0 fault p.2).0
        ∙ (ap (λ (commits : List Commit). FewCommits (length commits)) (same_commits pit text p.0 q.0 p.1 q.1) ∙ sym (few-is at q.0 other q.2).0)

    shown_text : IsOneText (IsShown at pit text) (IsShowFault at pit text)
    shown_text = record { values = one_shown; apart = shown_apart; faults = shown_faults }

  -- ---- the run

  module _ (at : Option ℕ) (model schedule : Reading) (out : Writing) (told_model : IsSome model.before) (told_schedule : IsSome schedule.before) where
    schedule_determined : (pit : Pit) → IsDetermined IsSeen (show_step at schedule) pit
    schedule_determined pit = input-determined Schedule schedule (IsShown at) (IsShowFault at) pit told_schedule (λ text. shown_text at pit text)

    out_determined : (answer : List ℕ) → IsDetermined {B = Status} IsSeen (write_step out (λ (text : List ℕ). text) (λ text. Fine)) answer
    out_determined answer = write-determined out (λ (text : List ℕ). text) (λ text. Fine) answer

    show_determined : IsDetermined IsSeen (show_run at model schedule out) tt
    show_determined =
        in_turn-determined IsSeen (model_step model) (in_turn (show_step at schedule) (write_step out (λ (text : List ℕ). text) (λ text. Fine))) tt (model-determined model told_model)
        (λ pit. in_turn-determined IsSeen (show_step at schedule) (write_step out (λ (text : List ℕ). text) (λ text. Fine)) pit (schedule_determined pit) out_determined)

    pub seen-outcome : HasOneOutcome NoMemory (want_aside NoMemory (show_run at model schedule out))
    seen-outcome = seen_run NoMemory (show_run at model schedule out) show_determined

    pub written-outcome : (Keeps out.before out.after → ⊥) → HasOneOutcome NoMemory (show_run at model schedule out)
    written-outcome grown =
        shown_run NoMemory (model_step model) (show_step at schedule) (write_step out (λ (text : List ℕ). text) (λ text. Fine)) (model-determined model told_model) schedule_determined out_determined
        (λ pit answer p value gives untouched. grown untouched) (λ answer. write-never_both out (λ (text : List ℕ). text) (λ text. Fine) answer)
