-- The files of inputs: all are opened, in order, before one is read.
use Rattle.std.specs.Prelude.{◌≡◌, ◌≢◌, ℕ, ◌+◌, Bool, true, false, List, [], ◌∷◌, Option, Some, None, option_map}
use Rattle.std.specs.Borrow.{Bor}
use Rattle.pit_step.specs.declared.input.Input.{Input}
use Rattle.pit_step.specs.declared.fault.CliFault.{CliFault}
use Rattle.pit_step.specs.declared.fault.CliFault.TheVariants.{CannotRead}
use Rattle.pit_step.specs.Devices.{Reading}
use Rattle.pit_step.specs.Steps.{Step, judge_step, each}
use Rattle.pit_file.specs.declared.fault.FileFault.{FileFault}

-- what is told of files, by their paths
pub record Told : Type 0 where
  -- whether one opens
  pub opens : List ℕ → Option Bool
  -- its bytes
  pub holds : List ℕ → Option (List ℕ)
  -- whether the second path, an input's, leads to one of the two files of the history at the first path: its own, or the new one beside it
  pub meets : List ℕ → List ℕ → Option Bool
  -- whether something is there
  pub is_there : List ℕ → Option Bool
  -- why no history can be written there, if none can; one that is carried on is written to nothing but a file
  pub refusal : Bool → List ℕ → Option (Option FileFault)

abbrev pub nothing_told : Told
nothing_told = record {
  opens = λ path. None;
  holds = λ path. None;
  meets = λ history path. None;
  is_there = λ path. None;
  refusal = λ is_carried_on path. None;
}

-- ---- inputs and their paths

-- a path that the words may leave out
abbrev pub path_if : Option (Bor (List ℕ)) → Option (List ℕ)
path_if path = option_map (λ p. p.now) path

-- the file of an input that may be left out
abbrev pub file_if : Input → Option (List ℕ) → List (Input × List ℕ)
file_if input None = []
file_if input (Some path) = (input, path) ∷ []

-- inputs that are numbered from this number on
abbrev pub numbered : (ℕ → Input) → ℕ → List (List ℕ) → List (Input × List ℕ)
numbered input number [] = []
numbered input number (path ∷ paths) = (input number, path) ∷ numbered input (number + 1) paths

-- ---- opening

-- a file opens, and can be read; or it doesn't
abbrev pub open_step : Told → Input × List ℕ → Step CliFault (Unit {0}) Reading
open_step told file =
    judge_step (λ _ reading. (told.opens file.1 ≢ Some false) × (reading.before ≡ told.holds file.1)) (λ _ fault. (told.opens file.1 ≢ Some true) × (fault ≡ CannotRead file.0))

-- each in turn
abbrev pub open_each : Told → List (Input × List ℕ) → Step CliFault (Unit {0}) (List Reading)
open_each told files = each (λ number. open_step told) 1 files
