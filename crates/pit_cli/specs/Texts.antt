-- The texts of the inputs of `plan`: what they stand for, and their first fault.
use Rattle.std.specs.Prelude.{◌≡◌, ◌⊎◌, ℕ, List, Option, Some, None}
use Rattle.pit_model.specs.Pit.{Pit}
use Rattle.pit_text.specs.Cutting.{cut_of, end_line}
use Rattle.pit_text.specs.Stands.{StopsAt, StandsWhole, FailsWhole, NamesFault}
use Rattle.pit_script.specs.Causes.{script_cause_of}
use Rattle.pit_script.specs.Jobs.{Job, jobs_of, script_end, script_line}
use Rattle.pit_script.specs.declared.error.ScriptError.{ScriptError}
use Rattle.pit_step.specs.declared.fault.CliFault.{CliFault}
use Rattle.pit_step.specs.declared.fault.CliFault.TheVariants.{NoMemory, Script}
use Rattle.pit_step.specs.Steps.{Step, in_turn, beside, judge_step, may_step, run_step, each}
use Rattle.pit_step.specs.Inputs.{StandsAs, IsModel, IsModelFault, IsOrder, IsOrderFault, IsPlaced, IsPlacesFault}
use Rattle.pit_opening.specs.Beginnings.{Begun, IsOpeningOf, IsOpeningFault}
use Rattle.pit_opening.specs.Openings.{Opened}

pub record Texts : Type 0 where
  pub model : List ℕ
  pub precedence : List ℕ
  pub blocks : Option (List ℕ)
  pub beginning : Begun
  pub scripts : List (List ℕ)

-- ---- the pit

-- the pit with the places that a text gives, if there is one
abbrev pub ArePlacesOf : Pit → Option (List ℕ) → Pit → Type 0
ArePlacesOf given None pit = pit ≡ given
ArePlacesOf given (Some bytes) pit = IsPlaced given bytes pit

abbrev pub IsPlacedFault : Pit → Option (List ℕ) → CliFault → Type 0
IsPlacedFault given None fault = fault ≡ NoMemory
IsPlacedFault given (Some bytes) fault = IsPlacesFault given bytes fault

-- the pit of a model, of precedences, and of places where they are given
abbrev pub pit_judged : List ℕ → List ℕ → Option (List ℕ) → Step CliFault (Unit {0}) Pit
pit_judged model precedence blocks =
    in_turn (judge_step (λ _. IsModel model) (λ _. IsModelFault model))
    (in_turn (judge_step (λ bare. IsOrder bare precedence) (λ bare. IsOrderFault bare precedence))
    (judge_step (λ ordered. ArePlacesOf ordered blocks) (λ ordered. IsPlacedFault ordered blocks)))

-- ---- the scripts

abbrev pub IsScriptOf : Pit → List ℕ → List Job → Type 0
IsScriptOf pit bytes = StandsAs (StandsWhole (script_line pit) script_end (cut_of bytes)) jobs_of

abbrev pub IsBadScript : Pit → List ℕ → ScriptError → Type 0
IsBadScript pit bytes error = NamesFault script_cause_of (FailsWhole (script_line pit) script_end (cut_of bytes) (end_line bytes) error.line) error.cause

-- memory runs out at a line, where none so far has a fault, or behind the whole script, which has none
abbrev pub IsScriptStop : Pit → List ℕ → Type 0
IsScriptStop pit bytes = ((place : ℕ) × StopsAt (script_line pit) (cut_of bytes) place) ⊎ ((jobs : List Job) × IsScriptOf pit bytes jobs)

-- a fault of the script with this number
abbrev pub IsScriptFault : Pit → ℕ → List ℕ → CliFault → Type 0
IsScriptFault pit number bytes (Script n error) = (n ≡ number) × IsBadScript pit bytes error
IsScriptFault pit number bytes NoMemory = IsScriptStop pit bytes
IsScriptFault pit number bytes other = ⊥

abbrev pub script_judged : Pit → ℕ → List ℕ → Step CliFault (Unit {0}) (List Job)
script_judged pit number bytes = judge_step (λ _. IsScriptOf pit bytes) (λ _. IsScriptFault pit number bytes)

-- the scripts, numbered from 1; before that, there may be no memory for the heights of the pit's blocks
abbrev pub scripts_judged : List (List ℕ) → Pit → Step CliFault (Unit {0}) (List (List Job))
scripts_judged texts pit = in_turn (may_step NoMemory) (each (script_judged pit) 1 texts)

-- ---- all of them

-- what the texts stand for: a pit with what a desk on it is opened with, and scripts
abbrev pub Setup : Type 0
Setup = (Pit × Opened) × List (List Job)

abbrev pub pit_in : Setup → Pit
pit_in setup = setup.0.0

abbrev pub opening_in : Setup → Opened
opening_in setup = setup.0.1

abbrev pub scripts_in : Setup → List (List Job)
scripts_in setup = setup.1

abbrev pub texts_judged : Texts → Step CliFault (Unit {0}) Setup
texts_judged texts =
    in_turn (pit_judged texts.model texts.precedence texts.blocks)
    (in_turn (beside (judge_step (λ pit. IsOpeningOf pit texts.beginning) (λ pit. IsOpeningFault pit texts.beginning)))
    (beside (run_step (λ given. scripts_judged texts.scripts given.0) (Unit {0}))))
