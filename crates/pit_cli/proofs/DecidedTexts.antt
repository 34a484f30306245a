-- Texts stand for a pit, a start and scripts, or have one first fault.
use Rattle.std.proofs.Common.{◌≡◌, ◌⊎◌, inl, inr, ℕ, List, Option, Some, None, refl, sym, ap, ◌∙◌}
use Rattle.pit_model.specs.Pit.{Pit}
use Rattle.pit_text.specs.Cutting.{cut_of, end_line}
use Rattle.pit_text.specs.Stands.{StandsWhole, FailsWhole, HasOneResult, NamesFault}
use Rattle.pit_text.proofs.CallerLemmas.{one_whole_result, named-result}
use Rattle.pit_script.specs.Causes.{script_cause_of}
use Rattle.pit_script.specs.Jobs.{Job, jobs_of, script_end, script_line}
use Rattle.pit_script.specs.declared.error.ScriptCause.{ScriptCause}
use Rattle.pit_script.specs.declared.error.ScriptError.{ScriptError}
use Rattle.pit_script.specs.declared.fact.ScriptFact.{ScriptFact}
use Rattle.pit_step.specs.declared.fault.CliFault.{CliFault}
use Rattle.pit_step.specs.declared.fault.CliFault.TheVariants as cli
use Rattle.pit_step.specs.Inputs.{IsModel, IsModelFault, IsOrder, IsOrderFault}
use Rattle.pit_step.specs.Steps.{in_turn, beside, judge_step, may_step, run_step, each}
use Rattle.pit_step.proofs.CallerLemmas.{IsSeen, IsOfInputs, never_two, IsDecided, IsDecidedText, judge-decided, in_turn-decided, beside-decided, run-decided, may-decided, each-decided, each-untouched, each-only, decided-model, decided-order, decided-places}
use Rattle.pit_opening.specs.Beginnings.{Begun, IsOpeningOf, IsOpeningFault}
use Rattle.pit_opening.specs.Openings.{Opened}
use Rattle.pit_opening.proofs.CallerLemmas.{IsEarly, text_early, beginning_early}
use Rattle.pit_cli.specs.Texts.{Texts, ArePlacesOf, IsPlacedFault, IsScriptOf, IsBadScript, IsScriptFault, pit_judged, script_judged, scripts_judged, texts_judged}

pub never_memory : IsOfInputs cli.NoMemory → ⊥
never_memory due = never_two due

-- ---- one text

places_decided : (given : Pit) (blocks : Option (List ℕ)) → IsDecidedText (ArePlacesOf given blocks) (IsPlacedFault given blocks)
places_decided given None = record {
  some = inl (given, refl);
  once = record {
    values = λ value other p q. p ∙ sym q;
    apart = λ value fault seen p q. seen q;
    faults = λ fault other seen also p q. absurd (seen p);
  };
}
places_decided given (Some bytes) = decided-places given bytes

-- what a plan begins with, by the law of its texts
abbrev pub IsOneBeginning : Type 0
IsOneBeginning = (pit : Pit) (begun : Begun) → IsDecidedText (IsOpeningOf pit begun) (IsOpeningFault pit begun)

module _ (pit : Pit) (number : ℕ) (bytes : List ℕ) where
  script_in : (fault : CliFault) → IsSeen fault → IsScriptFault pit number bytes fault → (error : ScriptError) × (fault ≡ cli.Script number error) × IsBadScript pit bytes error
  script_in (cli.Script n error) seen p = (error, ap (λ (k : ℕ). cli.Script k error) p.0, p.1)
  script_in cli.NoMemory seen p = absurd (seen refl)
  script_in other seen p = absurd p

  abbrev IsBad : ℕ → ScriptCause → Type 0
  IsBad place = NamesFault script_cause_of (FailsWhole (script_line pit) script_end (cut_of bytes) (end_line bytes) place)

  one_result : HasOneResult (StandsWhole (script_line pit) script_end (cut_of bytes)) IsBad
  one_result = named-result script_cause_of _ _ (one_whole_result (script_line pit) script_end (cut_of bytes) (end_line bytes))

  some_script : ((facts : List ScriptFact) × StandsWhole (script_line pit) script_end (cut_of bytes) facts)
      ⊎ ((place : ℕ) × (cause : ScriptCause) × IsBad place cause)
      → ((jobs : List Job) × IsScriptOf pit bytes jobs) ⊎ ((fault : CliFault) × IsOfInputs fault × IsScriptFault pit number bytes fault)
  some_script (inl found) = inl (jobs_of found.0, record { facts = found.0; stands = found.1; says = refl })
  some_script (inr bad) = inr (cli.Script number (record { line = bad.0; cause = bad.1 }), refl, (refl, bad.2))

  one_error : (error other : ScriptError) → IsBadScript pit bytes error → IsBadScript pit bytes other → error ≡ other
  one_error error other p q =
      ap (λ (n : ℕ). record error { line = n }) (one_result.places error.line other.line error.cause other.cause p q)
      ∙ ap (λ (c : ScriptCause). record other { cause = c }) (one_result.causes error.line other.line error.cause other.cause p q)

  script_decided : IsDecidedText (IsScriptOf pit bytes) (IsScriptFault pit number bytes)
  script_decided = record {
    some = some_script one_result.some;
    once = record {
      values = λ jobs other p q. p.says ∙ ap jobs_of (one_result.facts p.facts q.facts p.stands q.stands) ∙ sym q.says;
      apart = λ jobs fault seen p q. let bad = script_in fault seen q in one_result.apart p.facts bad.0.line bad.0.cause p.stands bad.2;
      faults = λ fault other seen also p q.
          let bad = script_in fault seen p in
          let worse = script_in other also q in
          bad.1 ∙ ap (λ (error : ScriptError). cli.Script number error) (one_error bad.0 worse.0 bad.2 worse.2) ∙ sym worse.1;
    };
  }

-- ---- one after the other

module _ (model precedence : List ℕ) (blocks : Option (List ℕ)) where
  pit_decided : IsDecided IsOfInputs (pit_judged model precedence blocks) tt
  pit_decided =
      in_turn-decided IsOfInputs (judge_step (λ _. IsModel model) (λ _. IsModelFault model))
      (in_turn (judge_step (λ bare. IsOrder bare precedence) (λ bare. IsOrderFault bare precedence))
      (judge_step (λ ordered. ArePlacesOf ordered blocks) (λ ordered. IsPlacedFault ordered blocks)))
      tt (tt, tt) (judge-decided (λ _. IsModel model) (λ _. IsModelFault model) tt (decided-model model))
      (λ (bare : Pit).
      in_turn-decided IsOfInputs (judge_step (λ (given : Pit). IsOrder given precedence) (λ given. IsOrderFault given precedence))
      (judge_step (λ (given : Pit). ArePlacesOf given blocks) (λ given. IsPlacedFault given blocks)) bare tt
      (judge-decided (λ (given : Pit). IsOrder given precedence) (λ given. IsOrderFault given precedence) bare (decided-order bare precedence))
      (λ (ordered : Pit). judge-decided (λ (given : Pit). ArePlacesOf given blocks) (λ given. IsPlacedFault given blocks) ordered (places_decided ordered blocks)))

script_judged-decided : (pit : Pit) (number : ℕ) (bytes : List ℕ) → IsDecided IsOfInputs (script_judged pit number bytes) tt
script_judged-decided pit number bytes = judge-decided (λ _. IsScriptOf pit bytes) (λ _. IsScriptFault pit number bytes) tt (script_decided pit number bytes)

scripts_decided : (texts : List (List ℕ)) (pit : Pit) → IsDecided IsOfInputs (scripts_judged texts pit) tt
scripts_decided texts pit =
    in_turn-decided IsOfInputs (may_step cli.NoMemory) (each (script_judged pit) 1 texts) tt (each-untouched IsOfInputs (script_judged pit) (λ number bytes. tt) 1 texts)
    (may-decided IsOfInputs cli.NoMemory tt never_memory)
    (λ given. each-decided IsOfInputs (script_judged pit) (λ number bytes. tt) (script_judged-decided pit) 1 texts)

module _ (beginnings : IsOneBeginning) (texts : Texts) where
  start_judged-decided : (pit : Pit) → IsDecided IsOfInputs (beside (judge_step (λ (given : Pit). IsOpeningOf given texts.beginning) (λ given. IsOpeningFault given texts.beginning))) pit
  start_judged-decided pit =
      beside-decided IsOfInputs (judge_step (λ (given : Pit). IsOpeningOf given texts.beginning) (λ given. IsOpeningFault given texts.beginning)) pit
      (judge-decided (λ (given : Pit). IsOpeningOf given texts.beginning) (λ given. IsOpeningFault given texts.beginning) pit (beginnings pit texts.beginning))

  rest_decided : (given : Pit × Opened) → IsDecided IsOfInputs (beside (run_step (λ (g : Pit × Opened). scripts_judged texts.scripts g.0) (Unit {0}))) given
  rest_decided given =
      beside-decided IsOfInputs (run_step (λ (g : Pit × Opened). scripts_judged texts.scripts g.0) (Unit {0})) given
      (run-decided IsOfInputs (λ (g : Pit × Opened). scripts_judged texts.scripts g.0) (Unit {0}) given (scripts_decided texts.scripts given.0))

  pub texts_decided : IsDecided IsOfInputs (texts_judged texts) tt
  texts_decided =
      in_turn-decided IsOfInputs (pit_judged texts.model texts.precedence texts.blocks)
      (in_turn (beside (judge_step (λ (given : Pit). IsOpeningOf given texts.beginning) (λ given. IsOpeningFault given texts.beginning)))
      (beside (run_step (λ (g : Pit × Opened). scripts_judged texts.scripts g.0) (Unit {0}))))
      tt (tt, tt) (pit_decided texts.model texts.precedence texts.blocks)
      (λ (pit : Pit).
      in_turn-decided IsOfInputs (beside (judge_step (λ (given : Pit). IsOpeningOf given texts.beginning) (λ given. IsOpeningFault given texts.beginning)))
      (beside (run_step (λ (g : Pit × Opened). scripts_judged texts.scripts g.0) (Unit {0}))) pit tt
      (start_judged-decided pit) rest_decided)

-- ---- no fault of theirs is of another kind

places_early : (given : Pit) (blocks : Option (List ℕ)) (fault : CliFault) → IsPlacedFault given blocks fault → IsEarly fault
places_early given None fault p = inr p
places_early given (Some bytes) fault p = text_early _ _ _ fault p

script_early : (pit : Pit) (number : ℕ) (bytes : List ℕ) (fault : CliFault) → IsScriptFault pit number bytes fault → IsEarly fault
script_early pit number bytes (cli.Script n error) p = inl refl
script_early pit number bytes cli.NoMemory p = inr refl
script_early pit number bytes other p = absurd p

pit_early : (model precedence : List ℕ) (blocks : Option (List ℕ)) (fault : CliFault) → (pit_judged model precedence blocks).Fails tt fault → IsEarly fault
pit_early model precedence blocks fault (inl p) = text_early _ _ _ fault p.0
pit_early model precedence blocks fault (inr (bare, stands, inl p)) = text_early _ _ _ fault p.0
pit_early model precedence blocks fault (inr (bare, stands, inr p)) = places_early p.0 blocks fault p.2

scripts_early : (texts : List (List ℕ)) (pit : Pit) (fault : CliFault) → (scripts_judged texts pit).Fails tt fault → IsEarly fault
scripts_early texts pit fault (inl p) = inr p.0
scripts_early texts pit fault (inr p) = each-only IsEarly (script_judged pit) (script_early pit) 1 texts fault p.2

pub texts_early : (texts : Texts) (fault : CliFault) → (texts_judged texts).Fails tt fault → IsEarly fault
texts_early texts fault (inl p) = pit_early texts.model texts.precedence texts.blocks fault p.0
texts_early texts fault (inr (pit, stands, inl p)) = beginning_early pit texts.beginning fault p.0
texts_early texts fault (inr (pit, stands, inr p)) = scripts_early texts.scripts p.0.0 fault p.2
