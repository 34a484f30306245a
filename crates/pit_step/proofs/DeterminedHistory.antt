-- What the bytes of a history determine, by the laws of its lines.
use Rattle.std.proofs.Common.{◌≡◌, ◌≢◌, ℕ, List, refl, sym, ap, ◌∙◌}
use Rattle.pit_desk.specs.History.{Answered}
use Rattle.pit_lines.specs.Lines.{StandsForHistory, HasFirstFault}
use Rattle.pit_lines.specs.declared.error.LinesCause.{LinesCause}
use Rattle.pit_lines.specs.declared.error.LinesError.{LinesError}
use Rattle.pit_step.specs.declared.input.Input.{Input}
use Rattle.pit_step.specs.declared.fault.CliFault.{CliFault}
use Rattle.pit_step.specs.declared.fault.CliFault.TheVariants.{NoMemory, Lines}
use Rattle.pit_step.specs.Inputs.{IsHistoryFault}
use Rattle.pit_step.proofs.DeterminedSteps.{IsOneText}

abbrev pub IsOneHistory : Type 0
IsOneHistory = (text : List ℕ) (history other : List Answered) → StandsForHistory text history → StandsForHistory text other → history ≡ other

abbrev pub IsNeverBad : Type 0
IsNeverBad = (text : List ℕ) (history : List Answered) (place : ℕ) (cause : LinesCause) → StandsForHistory text history → HasFirstFault text place cause → ⊥

abbrev pub IsOneFault : Type 0
IsOneFault = (text : List ℕ) (place other : ℕ) (cause why : LinesCause) → HasFirstFault text place cause → HasFirstFault text other why → (place ≡ other) × (cause ≡ why)

same_error : (file named : Input) (error other : LinesError) → file ≡ named → (error.line ≡ other.line) × (error.cause ≡ other.cause) → Lines file error ≡ Lines named other
same_error file named error other is same =
    ap (λ (f : Input). Lines f error) is
    ∙ ap (λ (n : ℕ). Lines named (record error { line = n })) same.0 ∙ ap (λ (c : LinesCause). Lines named (record other { cause = c })) same.1

module _ (one_history : IsOneHistory) (never_bad : IsNeverBad) (one_fault : IsOneFault) (file : Input) (bytes : List ℕ) where
  history_apart : (entries : List Answered) (fault : CliFault) → fault ≢ NoMemory → StandsForHistory bytes entries → IsHistoryFault file bytes fault → ⊥
  history_apart entries (Lines f error) some p q = never_bad bytes entries error.line error.cause p q.1
  history_apart entries NoMemory some p q = some refl
  history_apart entries other some p q = q

  history_faults : (fault other : CliFault) → fault ≢ NoMemory → other ≢ NoMemory → IsHistoryFault file bytes fault → IsHistoryFault file bytes other → fault ≡ other
  history_faults (Lines f error) (Lines other more) some also p q =
      same_error f other error more (p.0 ∙ sym q.0) (one_fault bytes error.line more.line error.cause more.cause p.1 q.1)
  history_faults (Lines f error) NoMemory some also p q = absurd (also refl)
  history_faults (Lines f error) other some also p q = absurd q
  history_faults NoMemory other some also p q = absurd (some refl)
  history_faults fault other some also p q = absurd p

  pub one-history_text : IsOneText (StandsForHistory bytes) (IsHistoryFault file bytes)
  one-history_text = record { values = λ entries other p q. one_history bytes entries other p q; apart = history_apart; faults = history_faults }
