-- What a merge begins with is one, or has one fault, out of memory aside; and on the same bytes it is the same.
use Rattle.std.proofs.Common.{◌≡◌, ◌≢◌, ℕ, Bool, List, Option, Some, None, IfSome, option_map, sym, ap, ◌∙◌}
use Rattle.std.specs.Prelude.{⊤}
use Rattle.std.proofs.lemmas.Option.{same_Some}
use Rattle.pit_model.specs.Pit.{Pit}
use Rattle.pit_step.specs.declared.input.Input.{Input}
use Rattle.pit_step.specs.declared.input.Input.TheVariants.{Model, Precedence}
use Rattle.pit_step.specs.declared.fault.CliFault.{CliFault}
use Rattle.pit_step.specs.declared.fault.CliFault.TheVariants.{NoMemory}
use Rattle.pit_step.specs.Steps.{beside, judge_step, want_aside, HasOneOutcome}
use Rattle.pit_step.specs.Devices.{Reading}
use Rattle.pit_step.specs.Inputs.{IsModel, IsModelFault, IsOrder, IsOrderFault, model_step, order_step, ordered_pit_step}
use Rattle.pit_step.proofs.CallerLemmas.{IsSeen, IsOfInputs, IsOneText, inputs-seen, seen_run, decided-model, decided-order}
use Rattle.pit_opening.specs.Beginnings.{Begun, begin_input, begun_with, begun_without, begin_step, IsOpeningOf, IsOpeningFault}
use Rattle.pit_opening.specs.Openings.{Opened}
use Rattle.pit_merge.specs.Prepared.{Prepared, IsPrepared, opening_step, prepare_run}
use Rattle.pit_merge.specs.EndAlike.{EndAlike}
use Rattle.pit_merge.proofs.Readings.{AreReadAlike, IsTold, bytes_of, read-itself, read-again}
use Rattle.pit_merge.proofs.Alike.{AreAlike, fewer-alike, alike-determined, text-alike, in_turn-alike, beside-alike, input-alike}
use Rattle.pit_merge.proofs.Ends.{alike-ends}

-- ---- what a text stands for, by the laws of beginnings

abbrev pub IsOneBeginning : Type 0
IsOneBeginning = (pit : Pit) (begun : Begun) (opening other : Opened) → IsOpeningOf pit begun opening → IsOpeningOf pit begun other → opening ≡ other

abbrev pub IsNeverUnbegun : Type 0
IsNeverUnbegun = (pit : Pit) (begun : Begun) (opening : Opened) (fault : CliFault) → fault ≢ NoMemory → IsOpeningOf pit begun opening → IsOpeningFault pit begun fault → ⊥

abbrev pub IsOneBeginningFault : Type 0
IsOneBeginningFault =
    (pit : Pit) (begun : Begun) (fault other : CliFault) → fault ≢ NoMemory → other ≢ NoMemory → IsOpeningFault pit begun fault → IsOpeningFault pit begun other → fault ≡ other

same-prepared : (value other : Prepared) → value.pit ≡ other.pit → value.opening ≡ other.opening → value.is_carried_on ≡ other.is_carried_on → value.is_new ≡ other.is_new → value ≡ other
same-prepared value other pit opening is_carried_on is_new =
    ap (λ (p : Pit). record value { pit = p }) pit
    ∙ (ap (λ (o : Opened). record value { pit = other.pit; opening = o }) opening
    ∙ (ap (λ (b : Bool). record other { is_carried_on = b; is_new = value.is_new }) is_carried_on ∙ ap (λ (b : Bool). record other { is_new = b }) is_new))

-- ---- the inputs

-- both are there and read alike, or neither is there
abbrev AreStartsAlike : (CliFault → Type 0) → Input → Option Reading → Option Reading → Type 0
AreStartsAlike Due file None None = ⊤
AreStartsAlike Due file None (Some again) = ⊥
AreStartsAlike Due file (Some source) None = ⊥
AreStartsAlike Due file (Some source) (Some again) = AreReadAlike Due file source again

start-itself : (file : Input) (start : Option Reading) → IfSome start IsTold → AreStartsAlike IsSeen file start start
start-itself file None told = tt
start-itself file (Some source) told = read-itself file source told

start-again : (file : Input) (start again : Option Reading) → IfSome start IsTold → option_map bytes_of again ≡ option_map bytes_of start → AreStartsAlike IsOfInputs file start again
start-again file None None told same = tt
start-again file None (Some again) told same = absurd (cc)
start-again file (Some source) None told same = absurd (cc)
start-again file (Some source) (Some again) told same = read-again file source again told (same_Some (bytes_of again) (bytes_of source) same)

handed-on : (carries : Bool) (text : List ℕ) (given : Pit) → IsOneText (λ (begun : Begun). begun ≡ begun_with carries text) (λ (fault : CliFault). ⊥)
handed-on carries text given = record { values = λ value other p q. p ∙ sym q; apart = λ value fault some p q. q; faults = λ fault other some also p q. absurd p }

none-there : (carries : Bool) (given : Pit) → IsOneText (λ (begun : Begun). begun ≡ begun_without carries) (λ (fault : CliFault). ⊥)
none-there carries given = record { values = λ value other p q. p ∙ sym q; apart = λ value fault some p q. q; faults = λ fault other some also p q. absurd p }

module _ (Due : CliFault → Type 0) (seen : (fault : CliFault) → Due fault → IsSeen fault) where
  begin-alike : (carries : Bool) (start again : Option Reading) → AreStartsAlike Due (begin_input carries) start again
      → AreAlike {K = Pit} {L = Begun} Due (λ given. given) (λ value. value) (begin_step {A = Pit} carries start) (begin_step {A = Pit} carries again)
  begin-alike carries None None are =
      fewer-alike IsSeen Due (λ (given : Pit). given) (λ (value : Begun). value) (begin_step {A = Pit} carries None) (begin_step {A = Pit} carries None) seen
      (text-alike (λ (given : Pit) (begun : Begun). begun ≡ begun_without carries) (λ (given : Pit) (fault : CliFault). ⊥) (none-there carries))
  begin-alike carries None (Some again) are = absurd are
  begin-alike carries (Some source) None are = absurd are
  begin-alike carries (Some source) (Some again) are =
      input-alike Due seen (λ (given : Pit). given) (λ (value : Begun). value) (begin_input carries) source again (λ (given : Pit) (text : List ℕ) (begun : Begun). begun ≡ begun_with carries text)
      (λ (given : Pit) (text : List ℕ) (fault : CliFault). ⊥) are
      (λ text. text-alike (λ (given : Pit) (begun : Begun). begun ≡ begun_with carries text) (λ (given : Pit) (fault : CliFault). ⊥) (handed-on carries text))

  model-alike : (model again : Reading) → AreReadAlike Due Model model again → AreAlike {K = Unit {0}} {L = Pit} Due (λ given. given) (λ value. value) (model_step model) (model_step again)
  model-alike model again read =
      input-alike Due seen (λ (given : Unit {0}). given) (λ (value : Pit). value) Model model again (λ (given : Unit {0}). IsModel) (λ (given : Unit {0}). IsModelFault) read
      (λ text. text-alike (λ (given : Unit {0}). IsModel text) (λ (given : Unit {0}). IsModelFault text) (λ given. (decided-model text).once))

  order-alike : (precedence again : Reading) → AreReadAlike Due Precedence precedence again
      → AreAlike {K = Pit} {L = Pit} Due (λ given. given) (λ value. value) (order_step precedence) (order_step again)
  order-alike precedence again read =
      input-alike Due seen (λ (given : Pit). given) (λ (value : Pit). value) Precedence precedence again IsOrder IsOrderFault read
      (λ text. text-alike (λ (given : Pit). IsOrder given text) (λ (given : Pit). IsOrderFault given text) (λ given. (decided-order given text).once))

-- ---- the run

module _ (one_beginning : IsOneBeginning) (never_unbegun : IsNeverUnbegun) (one_fault : IsOneBeginningFault) where
  opened : (given : Pit × Begun) → IsOneText (IsPrepared given.0 given.1) (IsOpeningFault given.0 given.1)
  opened given = record {
    values = λ value other p q.
        same-prepared value other (p.same_pit ∙ sym q.same_pit) (one_beginning given.0 given.1 value.opening other.opening p.opening q.opening) (p.carried ∙ sym q.carried) (p.new ∙ sym q.new);
    apart = λ value fault some p q. never_unbegun given.0 given.1 value.opening fault some p.opening q;
    faults = λ fault other some also p q. one_fault given.0 given.1 fault other some also p q;
  }

  module _ (Due : CliFault → Type 0) (seen : (fault : CliFault) → Due fault → IsSeen fault) (carries : Bool) where
    start-alike : (start again : Option Reading) → AreStartsAlike Due (begin_input carries) start again
        → AreAlike {K = Pit} {L = Prepared} Due (λ given. given) (λ value. value) (opening_step carries start) (opening_step carries again)
    start-alike start again are =
        let judged = judge_step (λ (g : Pit × Begun) (value : Prepared). IsPrepared g.0 g.1 value) (λ (g : Pit × Begun) (fault : CliFault). IsOpeningFault g.0 g.1 fault) in
        in_turn-alike Due (λ (given : Pit). given) (λ (given : Pit × Begun). given) (λ (value : Prepared). value) (beside (begin_step {A = Pit} carries start)) (beside (begin_step {A = Pit} carries again))
        judged judged (beside-alike Due (begin_step {A = Pit} carries start) (begin_step {A = Pit} carries again) (begin-alike Due seen carries start again are))
        (fewer-alike IsSeen Due (λ (given : Pit × Begun). given) (λ (value : Prepared). value) judged judged seen
        (text-alike (λ (g : Pit × Begun) (value : Prepared). IsPrepared g.0 g.1 value) (λ (g : Pit × Begun) (fault : CliFault). IsOpeningFault g.0 g.1 fault) opened))

    prepare-alike : (model precedence other_model other_precedence : Reading) (start other_start : Option Reading) → AreReadAlike Due Model model other_model
        → AreReadAlike Due Precedence precedence other_precedence → AreStartsAlike Due (begin_input carries) start other_start
        → AreAlike {K = Unit {0}} {L = Prepared} Due (λ given. given) (λ value. value) (prepare_run carries model precedence start) (prepare_run carries other_model other_precedence other_start)
    prepare-alike model precedence other_model other_precedence start other_start one two three =
        in_turn-alike Due (λ (given : Unit {0}). given) (λ (given : Pit). given) (λ (value : Prepared). value) (ordered_pit_step model precedence) (ordered_pit_step other_model other_precedence)
        (opening_step carries start) (opening_step carries other_start)
        (in_turn-alike Due (λ (given : Unit {0}). given) (λ (given : Pit). given) (λ (value : Pit). value) (model_step model) (model_step other_model) (order_step precedence)
        (order_step other_precedence) (model-alike Due seen model other_model one) (order-alike Due seen precedence other_precedence two))
        (start-alike start other_start three)

  module _ (carries : Bool) (model precedence : Reading) (start : Option Reading) (told_model : IsTold model) (told_precedence : IsTold precedence) (told_start : IfSome start IsTold) where
    pub prepare-outcome : HasOneOutcome NoMemory (want_aside NoMemory (prepare_run carries model precedence start))
    prepare-outcome =
        seen_run NoMemory (prepare_run carries model precedence start)
        (alike-determined IsSeen (λ (given : Unit {0}). given) (prepare_run carries model precedence start) tt
        (prepare-alike IsSeen (λ fault is. is) carries model precedence model precedence start start (read-itself Model model told_model) (read-itself Precedence precedence told_precedence)
        (start-itself (begin_input carries) start told_start)))

    pub prepare-again : (other_model other_precedence : Reading) (other_start : Option Reading) → bytes_of other_model ≡ bytes_of model → bytes_of other_precedence ≡ bytes_of precedence
        → option_map bytes_of other_start ≡ option_map bytes_of start → EndAlike (prepare_run carries model precedence start) (prepare_run carries other_model other_precedence other_start)
    prepare-again other_model other_precedence other_start same_model same_precedence same_start =
        alike-ends (prepare_run carries model precedence start) (prepare_run carries other_model other_precedence other_start)
        (prepare-alike IsOfInputs inputs-seen carries model precedence other_model other_precedence start other_start (read-again Model model other_model told_model same_model)
        (read-again Precedence precedence other_precedence told_precedence same_precedence) (start-again (begin_input carries) start other_start told_start same_start))
