-- What a desk is opened with breaks no rule, or is refused for one fault, out of memory aside.
use Rattle.std.proofs.Common.{◌≡◌, ◌≢◌, ◌⊎◌, inl, inr, ℕ, ◌≤◌, List, [], ◌∷◌, length, refl, sym, ap, ◌∙◌, arith}
use Rattle.std.proofs.lemmas.Bool.Decides.{leb_tells}
use Rattle.pit_model.specs.Pit.{Pit, IsMeetable, IsFirstUnmeetable}
use Rattle.pit_desk.specs.History.{Answered}
use Rattle.pit_desk.specs.Legal.{IsLegal}
use Rattle.pit_desk.specs.Audited.{IsFirstWrong}
use Rattle.pit_desk.specs.Opened.{IsGoodStart, IsDeskError, opening_history}
use Rattle.pit_desk.specs.declared.entry.TheConstants.{ENTRIES_MAX}
use Rattle.pit_desk.specs.declared.error.DeskError.{DeskError}
use Rattle.pit_desk.specs.declared.error.DeskError.TheVariants as desk
use Rattle.pit_step.specs.declared.input.Input.{Input}
use Rattle.pit_step.specs.declared.fault.CliFault.{CliFault}
use Rattle.pit_step.specs.declared.fault.CliFault.TheVariants as cli
use Rattle.pit_step.specs.Statuses.{fault_status}
use Rattle.pit_step.proofs.CallerLemmas.{IsOfInputs, never_two}
use Rattle.pit_opening.specs.Openings.{Opened, started, resumed, IsGoodOpening, IsGoodHistory, IsHistoryRefusal, IsDeskFault, desk_fault_of}
use Rattle.pit_desk.proofs.CallerLemmas.{met, one-limit, some-limit}

-- ---- laws of the desk

abbrev pub IsSomeStart : Type 0
IsSomeStart =
    (pit : Pit) (start : List (ℕ × ℕ)) (max_entries : ℕ)
    → (IsGoodStart pit start × (length (opening_history start) ≤ max_entries)) ⊎ ((error : DeskError) × (error ≢ desk.NoMemory) × IsDeskError pit start max_entries error)

abbrev pub IsStartApart : Type 0
IsStartApart =
    (pit : Pit) (start : List (ℕ × ℕ)) (max_entries : ℕ) (error : DeskError) → IsGoodStart pit start → length (opening_history start) ≤ max_entries → error ≢ desk.NoMemory
    → IsDeskError pit start max_entries error → ⊥

abbrev pub IsOneStart : Type 0
IsOneStart =
    (pit : Pit) (start : List (ℕ × ℕ)) (max_entries : ℕ) (error other : DeskError) → error ≢ desk.NoMemory → other ≢ desk.NoMemory
    → IsDeskError pit start max_entries error → IsDeskError pit start max_entries other → error ≡ other

abbrev pub IsSomePlace : Type 0
IsSomePlace = (pit : Pit) (history : List Answered) → IsLegal pit history ⊎ ((place : ℕ) × IsFirstWrong pit history place)

abbrev pub IsNeverWrong : Type 0
IsNeverWrong = (pit : Pit) (history : List Answered) (place : ℕ) → IsLegal pit history → IsFirstWrong pit history place → ⊥

abbrev pub IsOnePlace : Type 0
IsOnePlace = (pit : Pit) (history : List Answered) (place other : ℕ) → IsFirstWrong pit history place → IsFirstWrong pit history other → place ≡ other

-- ---- a schedule

room : (start : List (ℕ × ℕ)) → length (opening_history start) ≤ ENTRIES_MAX
room [] = omega arith
room (pair ∷ more) = omega arith

desk-due : (pit : Pit) (start : List (ℕ × ℕ)) (why : DeskError) → why ≢ desk.NoMemory → IsDeskError pit start ENTRIES_MAX why → IsOfInputs (desk_fault_of why)
desk-due pit start (desk.Unmeetable resource period) some is = refl
desk-due pit start (desk.BadStart breach) some is = refl
desk-due pit start desk.Full some is = absurd (omega (arith, is.2))
desk-due pit start desk.NoMemory some is = absurd (some refl)

-- a desk's refusal that is of the inputs isn't out of memory
desk-in : (why : DeskError) (fault : CliFault) → fault ≡ desk_fault_of why → IsOfInputs fault → why ≢ desk.NoMemory
desk-in why fault is due same = never_two (sym (ap fault_status is ∙ ap (λ (e : DeskError). fault_status (desk_fault_of e)) same) ∙ due)

module _ (some_start : IsSomeStart) (start_apart : IsStartApart) (one_start : IsOneStart) (pit : Pit) (start : List (ℕ × ℕ)) where
  some-started : (IsGoodStart pit start × (length (opening_history start) ≤ ENTRIES_MAX)) ⊎ ((error : DeskError) × (error ≢ desk.NoMemory) × IsDeskError pit start ENTRIES_MAX error)
      → IsGoodOpening pit (started start) ⊎ ((fault : CliFault) × IsOfInputs fault × IsDeskFault pit (started start) fault)
  some-started (inl good) = inl good.0
  some-started (inr bad) = inr (desk_fault_of bad.0, desk-due pit start bad.0 bad.1 bad.2, (bad.0, bad.2, refl))

  pub start-some : IsGoodOpening pit (started start) ⊎ ((fault : CliFault) × IsOfInputs fault × IsDeskFault pit (started start) fault)
  start-some = some-started (some_start pit start ENTRIES_MAX)

  pub start-apart : (fault : CliFault) → IsOfInputs fault → IsGoodOpening pit (started start) → IsDeskFault pit (started start) fault → ⊥
  start-apart fault due good bad = start_apart pit start ENTRIES_MAX bad.0 good (room start) (desk-in bad.0 fault bad.2 due) bad.1

  pub start-same : (fault other : CliFault) → IsOfInputs fault → IsOfInputs other → IsDeskFault pit (started start) fault → IsDeskFault pit (started start) other → fault ≡ other
  start-same fault other due also p q =
      p.2 ∙ ap desk_fault_of (one_start pit start ENTRIES_MAX p.0 q.0 (desk-in p.0 fault p.2 due) (desk-in q.0 other q.2 also) p.1 q.1) ∙ sym q.2

-- ---- a history

same-limit : (pit : Pit) (r t s u : ℕ) → IsFirstUnmeetable pit (r, t) → IsFirstUnmeetable pit (s, u) → cli.LimitBelowZero r t ≡ cli.LimitBelowZero s u
same-limit pit r t s u p q = ap (λ (at : ℕ × ℕ). cli.LimitBelowZero at.1 at.0) (one-limit pit r t s u p q)

same-place : (file f g : Input) (place other : ℕ) → f ≡ file → g ≡ file → place ≡ other → cli.Illegal f place ≡ cli.Illegal g other
same-place file f g place other p q is = ap (λ (i : Input). cli.Illegal i place) (p ∙ sym q) ∙ ap (λ (n : ℕ). cli.Illegal g n) is

module _ (some_place : IsSomePlace) (never_wrong : IsNeverWrong) (one_place : IsOnePlace) (pit : Pit) (file : Input) (entries : List Answered) where
  abbrev Refusal : CliFault → Type 0
  Refusal = IsHistoryRefusal pit file entries

  by-place : IsMeetable pit → length entries ≤ ENTRIES_MAX → IsLegal pit entries ⊎ ((place : ℕ) × IsFirstWrong pit entries place)
      → IsGoodHistory pit entries ⊎ ((fault : CliFault) × IsOfInputs fault × Refusal fault)
  by-place meetable few (inl legal) = inl (record { meetable = meetable; few = few; legal = legal })
  by-place meetable few (inr wrong) = inr (cli.Illegal file wrong.0, refl, (refl, meetable, few, wrong.1))

  by-limit : IsMeetable pit ⊎ ((found : ℕ × ℕ) × IsFirstUnmeetable pit found) → IsGoodHistory pit entries ⊎ ((fault : CliFault) × IsOfInputs fault × Refusal fault)
  by-limit (inr (found, first)) = inr (cli.LimitBelowZero found.0 found.1, refl, first)
  by-limit (inl meetable) =
      elim (leb_tells (length entries) ENTRIES_MAX) [
        | inl few ↦ by-place meetable few.1 (some_place pit entries)
        | inr many ↦ inr (cli.TooLong file, refl, (refl, meetable, many.1))
      ]

  pub history-some : IsGoodHistory pit entries ⊎ ((fault : CliFault) × IsOfInputs fault × Refusal fault)
  history-some = by-limit (some-limit pit)

  pub history-apart : (fault : CliFault) → IsOfInputs fault → IsGoodHistory pit entries → Refusal fault → ⊥
  history-apart (cli.LimitBelowZero r t) due good p = met pit r t p good.meetable
  history-apart (cli.TooLong f) due good p = omega (arith, good.few, p.2)
  history-apart (cli.Illegal f place) due good p = never_wrong pit entries place good.legal p.3
  history-apart cli.NoMemory due good p = never_two due
  history-apart other due good p = p

  pub history-same : (fault other : CliFault) → IsOfInputs fault → IsOfInputs other → Refusal fault → Refusal other → fault ≡ other
  history-same (cli.LimitBelowZero r t) (cli.LimitBelowZero s u) due also p q = same-limit pit r t s u p q
  history-same (cli.LimitBelowZero r t) (cli.TooLong f) due also p q = absurd (met pit r t p q.1)
  history-same (cli.LimitBelowZero r t) (cli.Illegal f place) due also p q = absurd (met pit r t p q.1)
  history-same (cli.LimitBelowZero r t) cli.NoMemory due also p q = absurd (never_two also)
  history-same (cli.LimitBelowZero r t) other due also p q = absurd q
  history-same (cli.TooLong f) (cli.LimitBelowZero s u) due also p q = absurd (met pit s u q p.1)
  history-same (cli.TooLong f) (cli.TooLong g) due also p q = ap (λ (i : Input). cli.TooLong i) (p.0 ∙ sym q.0)
  history-same (cli.TooLong f) (cli.Illegal g place) due also p q = absurd (omega (arith, p.2, q.2))
  history-same (cli.TooLong f) cli.NoMemory due also p q = absurd (never_two also)
  history-same (cli.TooLong f) other due also p q = absurd q
  history-same (cli.Illegal f place) (cli.LimitBelowZero s u) due also p q = absurd (met pit s u q p.1)
  history-same (cli.Illegal f place) (cli.TooLong g) due also p q = absurd (omega (arith, q.2, p.2))
  history-same (cli.Illegal f place) (cli.Illegal g other) due also p q = same-place file f g place other p.0 q.0 (one_place pit entries place other p.3 q.3)
  history-same (cli.Illegal f place) cli.NoMemory due also p q = absurd (never_two also)
  history-same (cli.Illegal f place) other due also p q = absurd q
  history-same cli.NoMemory other due also p q = absurd (never_two due)
  history-same fault other due also p q = absurd p

-- ---- either

module _ (some_start : IsSomeStart) (start_apart : IsStartApart) (one_start : IsOneStart) (some_place : IsSomePlace) (never_wrong : IsNeverWrong) (one_place : IsOnePlace) (pit : Pit) where
  pub opening-some : (opening : Opened) → IsGoodOpening pit opening ⊎ ((fault : CliFault) × IsOfInputs fault × IsDeskFault pit opening fault)
  opening-some (started start) = start-some some_start start_apart one_start pit start
  opening-some (resumed file entries) = history-some some_place never_wrong one_place pit file entries

  pub opening-apart : (opening : Opened) (fault : CliFault) → IsOfInputs fault → IsGoodOpening pit opening → IsDeskFault pit opening fault → ⊥
  opening-apart (started start) = start-apart some_start start_apart one_start pit start
  opening-apart (resumed file entries) = history-apart some_place never_wrong one_place pit file entries

  pub opening-same : (opening : Opened) (fault other : CliFault) → IsOfInputs fault → IsOfInputs other → IsDeskFault pit opening fault → IsDeskFault pit opening other → fault ≡ other
  opening-same (started start) = start-same some_start start_apart one_start pit start
  opening-same (resumed file entries) = history-same some_place never_wrong one_place pit file entries
