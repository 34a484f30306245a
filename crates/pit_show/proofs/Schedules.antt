-- What is shown of a text, by which of the two it is.
use Rattle.std.proofs.Common.{◌≡◌, inl, inr, ℕ, ◌<◌, ◌≤◌, true, false, List, [], ◌++◌, length, take, Option, Some, None, unwrap_or, get_or, length-append, refl, sym, ap, subst, ◌∙◌, arith}
use Rattle.std.proofs.lemmas.List.{take_all, get_or_append_left}
use Rattle.pit_model.specs.Pit.{Pit}
use Rattle.pit_plan.specs.Schedule.{Commit}
use Rattle.pit_plan.specs.Standing.{Standing, IsPlanOf}
use Rattle.pit_desk.specs.History.{Answered, CallFits, commits_of}
use Rattle.pit_lines.specs.Lines.{StandsForHistory}
use Rattle.pit_step.specs.declared.input.Input.TheVariants.{Schedule}
use Rattle.pit_step.specs.declared.fault.CliFault.{CliFault}
use Rattle.pit_step.specs.declared.fault.CliFault.TheVariants.{FewCommits, Illegal, NoMemory}
use Rattle.pit_step.specs.Inputs.{IsSolutionOf, IsSolutionFault, IsHistoryFault}
use Rattle.pit_state.specs.States.{is_history, commits_of_schedule, EachFits, IsUnfit, IsStateOf}
use Rattle.pit_state.proofs.CallerLemmas.{history-state, history-unfit, history-bad, solution-state, solution-bad, solution-wants, fit-or-unfit}
use Rattle.pit_show.specs.Fronts.{IsFront}
use Rattle.pit_step.specs.LineTexts.{left_text}
use Rattle.pit_show.specs.ShowText.{history_comment}
use Rattle.pit_show.specs.Show.{shown_count, IsHistoryComment, IsComment, IsShown, IsTooFew, IsShowFault}
use Rattle.pit_show.specs.Inside.Shown.{IsFrontShown, AreEntriesShown, AreNotShown, ArePairsShown, IsWantOrFew}
use Rattle.pit_show.proofs.Fronts.{front-commits}

-- ---- too few commits

pub too-few : (at : Option ℕ) (commits : List Commit) (n : ℕ) (fault : CliFault) → n ≡ length commits → (fault ≡ FewCommits n) × (n < unwrap_or at n) → IsTooFew at commits fault
too-few None commits n fault same is = absurd (omega (arith, is.1))
too-few (Some asked) commits n fault same is = subst (IsTooFew (Some asked) commits) (sym is.0) (same, omega (arith, same, is.1))

-- ---- a history

comment-history : (text : List ℕ) (count : ℕ) (comment : List ℕ) → is_history text ≡ true → IsHistoryComment text count comment → IsComment text count comment
unfolding IsComment
comment-history text count comment kind is = rw kind is

module _ (at : Option ℕ) (pit : Pit) (text : List ℕ) (entries : List Answered) (kind : is_history text ≡ true) (stands : StandsForHistory text entries) where
  stand-for : EachFits pit entries → IsStateOf pit text (commits_of entries)
  stand-for fits = history-state pit text (commits_of entries) kind (record { entries = entries; stands = stands; fits = fits; are = refl })

  pub history-shown : (answer : List ℕ) → AreEntriesShown at pit entries answer → IsShown at pit text answer
  history-shown answer is = record {
    commits = commits_of entries;
    stands = stand-for is.fits;
    enough = is.enough;
    comment = history_comment is.shown.front;
    is_comment = comment-history text (shown_count at (commits_of entries)) (history_comment is.shown.front) kind
        (record { entries = entries; stands = stands; front = is.shown.front; is_front = is.shown.is_front; says = refl });
    says = is.shown.says;
  }

  pub history-not_shown : (fault : CliFault) → AreNotShown at pit entries fault → IsShowFault at pit text fault
  history-not_shown fault (inl unfit) = inl (history-unfit Schedule pit text entries fault kind stands unfit)
  history-not_shown fault (inr few) = inr (commits_of entries, stand-for few.0, few.1)

pub history-unread : (at : Option ℕ) (pit : Pit) (text : List ℕ) (fault : CliFault) → is_history text ≡ true → IsHistoryFault Schedule text fault → IsShowFault at pit text fault
history-unread at pit text fault kind is = inl (history-bad Schedule pit text fault kind is)

-- of entries that fit, only memory can run out
pub fits-wants : (pit : Pit) (entries : List Answered) (fault : CliFault) → EachFits pit entries → IsUnfit Schedule pit entries fault → fault ≡ NoMemory
fits-wants pit entries (Illegal f place) fits is = absurd (fit-or-unfit pit entries place fits is.1)
fits-wants pit entries NoMemory fits is = refl
fits-wants pit entries other fits is = absurd is

-- ---- a front of entries that fit

pub front-fits : (pit : Pit) (entries front : List Answered) (count : ℕ) → EachFits pit entries → IsFront entries count front → EachFits pit front
front-fits pit entries front count fits is = λ k d below.
    let long = ap length is.cut in
    subst (λ (e : Answered). CallFits pit e.call) (ap (λ (h : List Answered). get_or h k d) is.cut ∙ get_or_append_left front is.rest d k below)
    (fits k d (omega (arith, below, long, length-append front is.rest)))

-- of all commits, the plan is that of all entries
pub front-all : (plan : Standing) (entries front : List Answered) (count : ℕ) → IsPlanOf plan (commits_of entries) → IsFront entries count front → plan.commits ≡ count → IsPlanOf plan (commits_of front)
front-all plan entries front count leaves is same =
    subst (IsPlanOf plan) (sym (front-commits entries count front is ∙ take_all count (commits_of entries) (omega (arith, leaves.count, same)))) leaves

pub front-shown : (pit : Pit) (left : Standing) (entries front : List Answered) (count : ℕ) (comment answer : List ℕ) → IsFront entries count front → comment ≡ history_comment front → left.pit ≡ pit
    → IsPlanOf left (commits_of front) → ((commits : List Commit) → IsPlanOf left commits → answer ≡ comment ++ left_text left.pit commits) → IsFrontShown pit entries count answer
front-shown pit left entries front count comment answer is told same leaves said = record {
  front = front;
  is_front = is;
  says = said (commits_of front) leaves
      ∙ (ap (λ (c : List ℕ). c ++ left_text left.pit (commits_of front)) told
      ∙ (ap (λ (p : Pit). history_comment front ++ left_text p (commits_of front)) same
      ∙ ap (λ (commits : List Commit). history_comment front ++ left_text pit commits) (front-commits entries count front is)));
}

-- so many are shown, and there are enough
same-count : (at : Option ℕ) (commits : List Commit) (total count : ℕ) → total ≡ length commits → count ≡ unwrap_or at total → count ≡ shown_count at commits
same-count at commits total count all is = is ∙ ap (λ (n : ℕ). unwrap_or at n) all

pub enough-shown : (at : Option ℕ) (commits : List Commit) (total count : ℕ) → total ≡ length commits → (count ≡ unwrap_or at total) × (count ≤ total) → shown_count at commits ≤ length commits
enough-shown at commits total count all is = subst (λ (n : ℕ). n ≤ length commits) (same-count at commits total count all is.0) (omega (arith, is.1, all))

pub fitting-shown : (at : Option ℕ) (pit : Pit) (entries : List Answered) (commits count : ℕ) (answer : List ℕ) → commits ≡ length (commits_of entries) → EachFits pit entries
    → (count ≡ unwrap_or at commits) × (count ≤ commits) → IsFrontShown pit entries count answer → AreEntriesShown at pit entries answer
fitting-shown at pit entries commits count answer total fits is shown =
    record {
      fits = fits;
      enough = enough-shown at (commits_of entries) commits count total is;
      shown = subst (λ (n : ℕ). IsFrontShown pit entries n answer) (same-count at (commits_of entries) commits count total is.0) shown;
    }

pub fitting-wants : (at : Option ℕ) (pit : Pit) (entries : List Answered) (fault : CliFault) → fault ≡ NoMemory → AreNotShown at pit entries fault
fitting-wants at pit entries fault is = inl (subst (IsUnfit Schedule pit entries) (sym is) tt)

-- ---- a solution

comment-solution : (text : List ℕ) (count : ℕ) → is_history text ≡ false → IsComment text count []
unfolding IsComment
comment-solution text count kind = rw kind refl

module _ (at : Option ℕ) (pit : Pit) (text : List ℕ) (pairs : List (ℕ × ℕ)) (kind : is_history text ≡ false) (stands : IsSolutionOf pit text pairs) where
  stand-as : IsStateOf pit text (commits_of_schedule pairs)
  stand-as = solution-state pit text (commits_of_schedule pairs) kind (record { schedule = pairs; stands = stands; are = refl })

  pub solution-shown : (answer : List ℕ) → ArePairsShown at pit pairs answer → IsShown at pit text answer
  solution-shown answer is = record {
    commits = commits_of_schedule pairs;
    stands = stand-as;
    enough = is.enough;
    comment = [];
    is_comment = comment-solution text (shown_count at (commits_of_schedule pairs)) kind;
    says = is.says;
  }

  pub solution-not_shown : (fault : CliFault) → IsWantOrFew at (commits_of_schedule pairs) fault → IsShowFault at pit text fault
  solution-not_shown fault (inl wants) = inl (solution-wants Schedule pit text pairs fault kind stands wants.0)
  solution-not_shown fault (inr few) = inr (commits_of_schedule pairs, stand-as, few)

pub solution-unread : (at : Option ℕ) (pit : Pit) (text : List ℕ) (fault : CliFault) → is_history text ≡ false → IsSolutionFault Schedule pit text fault → IsShowFault at pit text fault
solution-unread at pit text fault kind is = inl (solution-bad Schedule pit text fault kind is)

pub pairs-shown : (at : Option ℕ) (pit : Pit) (pairs : List (ℕ × ℕ)) (commits count : ℕ) (answer : List ℕ) → commits ≡ length (commits_of_schedule pairs)
    → (count ≡ unwrap_or at commits) × (count ≤ commits) → answer ≡ left_text pit (take count (commits_of_schedule pairs)) → ArePairsShown at pit pairs answer
pairs-shown at pit pairs commits count answer total is shown =
    record {
      enough = enough-shown at (commits_of_schedule pairs) commits count total is;
      says = shown ∙ ap (λ (n : ℕ). left_text pit (take n (commits_of_schedule pairs))) (same-count at (commits_of_schedule pairs) commits count total is.0);
    }
