-- A text of a schedule stands for one list of commits, or has one fault, out of memory aside.
use Rattle.std.proofs.Common.{◌≡◌, ◌≢◌, ℕ, ◌<◌, Bool, true, false, List, ◌∷◌, length, length-append, get_or, inl, inr, refl, sym, ap, subst, ◌∙◌, arith}
use Rattle.std.proofs.lemmas.List.{get_or_append_left}
use Rattle.std.proofs.Math.Seq.{get_or-append_seam}
use Rattle.std.proofs.lemmas.Bool.{cases_order}
use Rattle.pit_model.specs.Pit.{Pit}
use Rattle.pit_plan.specs.Schedule.{Commit}
use Rattle.pit_desk.specs.History.{Answered, CallFits, commits_of}
use Rattle.pit_step.specs.declared.input.Input.{Input}
use Rattle.pit_step.specs.declared.status.Status.{Status}
use Rattle.pit_step.specs.declared.fault.CliFault.{CliFault}
use Rattle.pit_step.specs.declared.fault.CliFault.TheVariants.{NoMemory, Illegal}
use Rattle.pit_step.specs.Inputs.{IsSolutionFault}
use Rattle.pit_step.proofs.CallerLemmas.{IsOneText, IsOneHistory, IsNeverBad, IsOneFault, one-history_text, decided-solution}
use Rattle.pit_state.specs.States.{is_history, commits_of_schedule, EachFits, IsFirstUnfit, IsUnfit, IsHistoryState, IsSolutionState, IsHistoryStateFault, IsStateBy, IsStateFaultBy, IsStateOf, IsStateFault}
use Rattle.pit_state.specs.Views.{IsViewed}

-- ---- the first entry that doesn't fit

-- the entry stands where its front ends
unfit-at : (pit : Pit) (entries : List Answered) (place : ℕ) (f : IsFirstUnfit pit entries place) → get_or entries (length f.before) f.entry ≡ f.entry
unfit-at pit entries place f = ap (λ (h : List Answered). get_or h (length f.before) f.entry) f.cut ∙ get_or-append_seam f.before f.entry f.after f.entry

unfit-below : (pit : Pit) (entries : List Answered) (place : ℕ) (f : IsFirstUnfit pit entries place) → length f.before < length entries
unfit-below pit entries place f = let long = ap length f.cut in omega (arith, long, length-append f.before (f.entry ∷ f.after))

pub fit-or-unfit : (pit : Pit) (entries : List Answered) (place : ℕ) → EachFits pit entries → IsFirstUnfit pit entries place → ⊥
fit-or-unfit pit entries place fits f =
    f.unfit (subst (λ (e : Answered). CallFits pit e.call) (unfit-at pit entries place f) (fits (length f.before) f.entry (unfit-below pit entries place f)))

-- none comes before another
none-earlier : (pit : Pit) (entries : List Answered) (place other : ℕ) (f : IsFirstUnfit pit entries place) (g : IsFirstUnfit pit entries other) → length f.before < length g.before → ⊥
none-earlier pit entries place other f g less =
    let at : get_or g.before (length f.before) f.entry ≡ f.entry =
    sym (get_or_append_left g.before (g.entry ∷ g.after) f.entry (length f.before) less)
    ∙ (ap (λ (h : List Answered). get_or h (length f.before) f.entry) (sym g.cut) ∙ unfit-at pit entries place f) in
    f.unfit (subst (λ (e : Answered). CallFits pit e.call) at (g.fits (length f.before) f.entry less))

pub one-unfit : (pit : Pit) (entries : List Answered) (place other : ℕ) → IsFirstUnfit pit entries place → IsFirstUnfit pit entries other → place ≡ other
one-unfit pit entries place other f g =
    elim (cases_order (length f.before) (length g.before)) [
      | inl same ↦ omega (arith, same, f.number, g.number)
      | inr apart ↦ elim apart [ inl less ↦ absurd (none-earlier pit entries place other f g less) | inr more ↦ absurd (none-earlier pit entries other place g f more) ]
    ]

fit-fault : (file : Input) (pit : Pit) (entries : List Answered) (fault : CliFault) → fault ≢ NoMemory → EachFits pit entries → IsUnfit file pit entries fault → ⊥
fit-fault file pit entries (Illegal f place) some fits q = fit-or-unfit pit entries place fits q.1
fit-fault file pit entries NoMemory some fits q = some refl
fit-fault file pit entries other some fits q = q

same_illegal : (file named : Input) (place other : ℕ) → file ≡ named → place ≡ other → Illegal file place ≡ Illegal named other
same_illegal file named place other is same = ap (λ (f : Input). Illegal f place) is ∙ ap (λ (n : ℕ). Illegal named n) same

one-unfit_fault : (file : Input) (pit : Pit) (entries : List Answered) (fault other : CliFault) → fault ≢ NoMemory → other ≢ NoMemory → IsUnfit file pit entries fault → IsUnfit file pit entries other
    → fault ≡ other
one-unfit_fault file pit entries (Illegal f place) (Illegal g more) some also p q = same_illegal f g place more (p.0 ∙ sym q.0) (one-unfit pit entries place more p.1 q.1)
one-unfit_fault file pit entries (Illegal f place) NoMemory some also p q = absurd (also refl)
one-unfit_fault file pit entries (Illegal f place) other some also p q = absurd q
one-unfit_fault file pit entries NoMemory other some also p q = absurd (some refl)
one-unfit_fault file pit entries fault other some also p q = absurd p

module _ (one_history : IsOneHistory) (never_bad : IsNeverBad) (one_fault : IsOneFault) (file : Input) (pit : Pit) (text : List ℕ) where
  -- ---- a history

  history_once : (commits other : List Commit) → IsHistoryState pit text commits → IsHistoryState pit text other → commits ≡ other
  history_once commits other p q = p.are ∙ ap commits_of (one_history text p.entries q.entries p.stands q.stands) ∙ sym q.are

  history_apart : (commits : List Commit) (fault : CliFault) → fault ≢ NoMemory → IsHistoryState pit text commits → IsHistoryStateFault file pit text fault → ⊥
  history_apart commits fault some p (inl q) = (one-history_text one_history never_bad one_fault file text).apart p.entries fault some p.stands q
  history_apart commits fault some p (inr q) =
      fit-fault file pit q.0 fault some (subst (EachFits pit) (one_history text p.entries q.0 p.stands q.1) p.fits) q.2

  history_faults : (fault other : CliFault) → fault ≢ NoMemory → other ≢ NoMemory → IsHistoryStateFault file pit text fault → IsHistoryStateFault file pit text other → fault ≡ other
  history_faults fault other some also (inl p) (inl q) = (one-history_text one_history never_bad one_fault file text).faults fault other some also p q
  history_faults fault other some also (inl p) (inr q) = absurd ((one-history_text one_history never_bad one_fault file text).apart q.0 fault some q.1 p)
  history_faults fault other some also (inr p) (inl q) = absurd ((one-history_text one_history never_bad one_fault file text).apart p.0 other also p.1 q)
  history_faults fault other some also (inr p) (inr q) =
      one-unfit_fault file pit q.0 fault other some also (subst (λ (entries : List Answered). IsUnfit file pit entries fault) (one_history text p.0 q.0 p.1 q.1) p.2) q.2

  -- ---- a solution

  solution_once : (commits other : List Commit) → IsSolutionState pit text commits → IsSolutionState pit text other → commits ≡ other
  solution_once commits other p q =
      p.are ∙ ap commits_of_schedule ((decided-solution file pit text).once.values p.schedule q.schedule p.stands q.stands) ∙ sym q.are

  solution_apart : (commits : List Commit) (fault : CliFault) → fault ≢ NoMemory → IsSolutionState pit text commits → IsSolutionFault file pit text fault → ⊥
  solution_apart commits fault some p q = (decided-solution file pit text).once.apart p.schedule fault some p.stands q

  -- ---- either

  by_kind : (kind : Bool) → IsOneText (IsStateBy kind pit text) (IsStateFaultBy kind file pit text)
  by_kind true = record { values = history_once; apart = history_apart; faults = history_faults }
  by_kind false = record { values = solution_once; apart = solution_apart; faults = (decided-solution file pit text).once.faults }

  pub state_text : IsOneText (IsStateOf pit text) (IsStateFault file pit text)
  unfolding IsStateOf IsStateFault
  state_text = by_kind (is_history text)

  -- ---- what is told of it

  pub view_text : (answer_of : Pit → List Commit → List ℕ × Status) → IsOneText (IsViewed answer_of pit text) (IsStateFault file pit text)
  view_text answer_of = record {
    values = λ answer other p q. p.says ∙ ap (λ (commits : List Commit). answer_of pit commits) (state_text.values p.commits q.commits p.stands q.stands) ∙ sym q.says;
    apart = λ answer fault some p q. state_text.apart p.commits fault some p.stands q;
    faults = state_text.faults;
  }
