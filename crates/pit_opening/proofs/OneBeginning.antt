-- The text of a beginning stands for one opening, or has one fault, out of memory aside.
use Rattle.std.proofs.Common.{◌≡◌, ◌⊎◌, inl, inr, ℕ, Bool, true, false, List, [], refl, sym, ap, ◌∙◌}
use Rattle.pit_model.specs.Pit.{Pit}
use Rattle.pit_desk.specs.History.{Answered}
use Rattle.pit_lines.specs.Lines.{StandsForHistory, HasFirstFault}
use Rattle.pit_lines.specs.declared.error.LinesCause.{LinesCause}
use Rattle.pit_state.specs.States.{is_history}
use Rattle.pit_step.specs.declared.input.Input.{Input}
use Rattle.pit_step.specs.declared.input.Input.TheVariants.{Start, History}
use Rattle.pit_step.specs.declared.fault.CliFault.{CliFault}
use Rattle.pit_step.specs.declared.fault.CliFault.TheVariants.{Lines}
use Rattle.pit_step.specs.Inputs.{IsHistoryFault, IsSolutionOf, IsSolutionFault}
use Rattle.pit_step.proofs.CallerLemmas.{IsOfInputs, IsOneText, IsDecidedText, IsOneHistory, IsNeverBad, IsOneFault, one-history_text, decided-solution}
use Rattle.pit_opening.specs.Beginnings.{Begun, nothing, scheduled, carried_on, unbegun, IsResumedOf, IsStartedOf, IsStartOf, IsStartFault, IsOpeningOf, IsOpeningFault}
use Rattle.pit_opening.specs.Openings.{Opened, started, resumed}

abbrev pub IsSomeHistory : Type 0
IsSomeHistory = (text : List ℕ) → ((history : List Answered) × StandsForHistory text history) ⊎ ((place : ℕ) × (cause : LinesCause) × HasFirstFault text place cause)

-- where there is no text
no_text : IsDecidedText (λ (opening : Opened). opening ≡ started []) (λ (fault : CliFault). ⊥)
no_text = record {
  some = inl (started [], refl);
  once = record { values = λ opening other p q. p ∙ sym q; apart = λ opening fault some p q. q; faults = λ fault other some also p q. absurd p };
}

module _ (some_history : IsSomeHistory) (one_history : IsOneHistory) (never_bad : IsNeverBad) (one_fault : IsOneFault) where
  module _ (file : Input) (text : List ℕ) where
    some_resumed : ((history : List Answered) × StandsForHistory text history) ⊎ ((place : ℕ) × (cause : LinesCause) × HasFirstFault text place cause)
        → ((opening : Opened) × IsResumedOf file text opening) ⊎ ((fault : CliFault) × IsOfInputs fault × IsHistoryFault file text fault)
    some_resumed (inl found) = inl (resumed file found.0, record { entries = found.0; stands = found.1; is = refl })
    some_resumed (inr bad) = inr (Lines file (record { line = bad.0; cause = bad.1 }), refl, (refl, bad.2))

    once_resumed : IsOneText (StandsForHistory text) (IsHistoryFault file text) → IsOneText (IsResumedOf file text) (IsHistoryFault file text)
    once_resumed one = record {
      values = λ opening other p q. p.is ∙ ap (λ (es : List Answered). resumed file es) (one.values p.entries q.entries p.stands q.stands) ∙ sym q.is;
      apart = λ opening fault some p q. one.apart p.entries fault some p.stands q;
      faults = one.faults;
    }

    resumed_decided : IsDecidedText (IsResumedOf file text) (IsHistoryFault file text)
    resumed_decided = record { some = some_resumed (some_history text); once = once_resumed (one-history_text one_history never_bad one_fault file text) }

  module _ (pit : Pit) (text : List ℕ) where
    some_started : ((schedule : List (ℕ × ℕ)) × IsSolutionOf pit text schedule) ⊎ ((fault : CliFault) × IsOfInputs fault × IsSolutionFault Start pit text fault)
        → ((opening : Opened) × IsStartedOf pit text opening) ⊎ ((fault : CliFault) × IsOfInputs fault × IsSolutionFault Start pit text fault)
    some_started (inl found) = inl (started found.0, record { schedule = found.0; stands = found.1; is = refl })
    some_started (inr bad) = inr bad

    once_started : IsOneText (IsSolutionOf pit text) (IsSolutionFault Start pit text) → IsOneText (IsStartedOf pit text) (IsSolutionFault Start pit text)
    once_started one = record {
      values = λ opening other p q. p.is ∙ ap (λ (s : List (ℕ × ℕ)). started s) (one.values p.schedule q.schedule p.stands q.stands) ∙ sym q.is;
      apart = λ opening fault some p q. one.apart p.schedule fault some p.stands q;
      faults = one.faults;
    }

    start_decided : (kind : Bool) → IsDecidedText (IsStartOf kind pit text) (IsStartFault kind pit text)
    start_decided true = resumed_decided Start text
    start_decided false = record { some = some_started (decided-solution Start pit text).some; once = once_started (decided-solution Start pit text).once }

  pub beginning_decided : (pit : Pit) (begun : Begun) → IsDecidedText (IsOpeningOf pit begun) (IsOpeningFault pit begun)
  beginning_decided pit nothing = no_text
  beginning_decided pit (scheduled text) = start_decided pit text (is_history text)
  beginning_decided pit (carried_on text) = resumed_decided History text
  beginning_decided pit unbegun = no_text
