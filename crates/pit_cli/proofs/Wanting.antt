-- What texts stand for, or where there is no memory for it.
use Rattle.std.proofs.Common.{◌≡◌, inl, inr, ℕ, List, [], Option, Some, Result, MatchResult, sym, subst}
use Rattle.std.proofs.lemmas.Result.{MatchResult-weaker}
use Rattle.pit_model.specs.Pit.{Pit}
use Rattle.pit_script.specs.Jobs.{Job}
use Rattle.pit_script.specs.Scripts.{StandsForJobs, WantsMemoryAt, IsScriptError}
use Rattle.pit_script.specs.declared.error.ScriptCause.TheVariants.{NoMemory as WantsMemory}
use Rattle.pit_script.specs.declared.error.ScriptError.{ScriptError}
use Rattle.pit_text.proofs.CallerLemmas.{stop_alone}
use Rattle.pit_script.proofs.CallerLemmas.{no_script_fault_wants, no_line_stands}
use Rattle.pit_step.specs.declared.fault.CliFault.{CliFault}
use Rattle.pit_step.specs.declared.fault.CliFault.TheVariants.{NoMemory}
use Rattle.pit_step.specs.Inputs.{IsPlaced, IsPlacesFault}
use Rattle.pit_step.proofs.CallerLemmas.{places-stop}
use Rattle.pit_cli.specs.Texts.{ArePlacesOf, IsPlacedFault, IsScriptOf, IsScriptStop}

-- a pit is built of what the places stand for
pub placed-built : (given pit : Pit) (places : Option (List ℕ)) (bytes : List ℕ) (result : Result Pit CliFault) → places ≡ Some bytes → IsPlaced given bytes pit
    → MatchResult result (λ p. p ≡ pit) (λ fault. fault ≡ NoMemory) → MatchResult result (ArePlacesOf given places) (IsPlacedFault given places)
placed-built given pit places bytes result is stands built =
    subst (λ (o : Option (List ℕ)). MatchResult result (ArePlacesOf given o) (IsPlacedFault given o)) (sym is)
    (MatchResult-weaker result built (λ p same. subst (λ (q : Pit). IsPlaced given bytes q) (sym same) stands)
    (λ fault same. subst (λ (f : CliFault). IsPlacesFault given bytes f) (sym same) (places-stop given bytes pit stands)))

-- a script's reader gives jobs
pub script-stands : (pit : Pit) (bytes : List ℕ) (jobs : List Job) → StandsForJobs pit bytes jobs → IsScriptOf pit bytes jobs
script-stands pit bytes jobs is = record { facts = is.0; stands = is.1; says = is.2 }

at_line : (pit : Pit) (bytes : List ℕ) (line : ℕ) → WantsMemoryAt pit bytes line → IsScriptStop pit bytes
at_line pit bytes line (inl stops) = inl (line, stops)
at_line pit bytes line (inr none) = inr ([], script-stands pit bytes [] (no_line_stands pit bytes none.0))

-- it is out of memory
pub script-wants : (pit : Pit) (bytes : List ℕ) (error : ScriptError) → error.cause ≡ WantsMemory → IsScriptError pit bytes error → IsScriptStop pit bytes
script-wants pit bytes error is answered = at_line pit bytes error.line (stop_alone no_script_fault_wants is answered)
