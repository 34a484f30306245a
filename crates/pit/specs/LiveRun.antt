-- A run of `live`, by what is told of the files that its words name.
use Rattle.std.specs.Prelude.{◌≡◌, ◌≢◌, ◌⊎◌, ◌==◌, ℕ, Bool, true, false, not, if◌then◌else◌, List, [], ◌∷◌, ◌++◌, length, map, Option, None, Some, is_some, option_map, option_to_list, IfSome}
use Rattle.std.specs.Borrow.{Bor}
use Rattle.pit_step.specs.declared.input.Input.{Input}
use Rattle.pit_step.specs.declared.status.Status.{Status}
use Rattle.pit_step.specs.declared.fault.CliFault.{CliFault}
use Rattle.pit_step.specs.declared.fault.CliFault.TheVariants.{NoMemory, CannotWrite}
use Rattle.pit_step.specs.Devices.{Reading, Writing}
use Rattle.pit_step.specs.Steps.{Step, in_turn, judge_step, run_step}
use Rattle.pit_file.specs.declared.fault.FileFault.{FileFault}
use Rattle.pit_file.specs.declared.fault.FileFault.TheVariants as cause
use Rattle.pit_live.specs.Live.{Filing, live_run}
use Rattle.pit_live.specs.LiveStarts.{prepare_run}
use Rattle.pit_command.specs.declared.origin.Origin.TheVariants.{Continued}
use Rattle.pit_command.specs.declared.live_words.LiveWords.{LiveWords}
use Rattle.pit.specs.Files.{Told}
use Rattle.pit.specs.Histories.{file_fault}
use Rattle.pit.specs.OpenFiles.{files_step}
use Rattle.pit.specs.Sources.{live_files}

-- one planner for each of the words, or one where there are none
abbrev pub planner_count : Option (Bor (List (Bor (List ℕ)))) → ℕ
planner_count None = 1
planner_count (Some words) = if length words.now == 0 then 1 else length words.now

-- ---- the history

-- its file is made ready, and nothing else has stood at its name
pub record IsHeld (refusal : Option (Option FileFault)) (filing : Filing) : Type 0 where
  pub sound : IfSome refusal (λ told. told ≡ None)
  pub new : IfSome filing.before.stood (λ all. length all ≡ 1)

-- it can't be made ready; nothing tells that there is no memory for it
pub record IsUnheld (refusal : Option (Option FileFault)) (fault : CliFault) : Type 0 where
  pub why : FileFault
  pub fault_is : fault ≡ file_fault why
  pub told : why ≢ cause.NoMemory → IfSome refusal (λ told. told ≡ Some why)

abbrev pub held_step : Told → LiveWords → Step CliFault (Unit {0}) Filing
held_step told words = judge_step (λ _. IsHeld (told.refusal true words.history.now)) (λ _. IsUnheld (told.refusal true words.history.now))

-- ---- the files

-- what is known of the bytes of each open file
pub record KnownLive : Type 0 where
  pub model : Option (List ℕ)
  pub precedence : Option (List ℕ)
  pub blocks : Option (Option (List ℕ))
  pub history : Option (Option (List ℕ))

abbrev pub known_live : KnownLive → List (Option (List ℕ))
known_live files = files.model ∷ files.precedence ∷ (option_to_list files.blocks ++ option_to_list files.history)

-- they are those of the inputs that the words name
pub record AreLive (told : Told) (words : LiveWords) (is_there : Bool) (files : KnownLive) : Type 0 where
  pub order : known_live files ≡ map (λ file. told.holds file.1) (live_files words is_there)
  pub blocks : is_some files.blocks ≡ is_some words.blocks
  pub history : is_some files.history ≡ is_there

-- there is no memory for the names of the streams; or it can't be told which files they may not be
abbrev pub IsStreamsFault : CliFault → Type 0
IsStreamsFault fault = (fault ≡ NoMemory) ⊎ (fault ≡ CannotWrite)

-- all files are opened, and none but the history's own is the history's
abbrev pub live_files_step : Told → LiveWords → Bool → Step CliFault (Unit {0}) KnownLive
live_files_step told words is_there =
    in_turn (files_step told (Continued words.history) (live_files words is_there)) (judge_step (λ _. AreLive told words is_there) (λ _. IsStreamsFault))

-- ---- the run

-- what is known of each file before and after the run
pub record LiveReadings : Type 0 where
  pub model : Reading
  pub precedence : Reading
  pub blocks : Option Reading
  pub history : Option Reading

pub record AreReadFrom (files : KnownLive) (readings : LiveReadings) : Type 0 where
  pub model : readings.model.before ≡ files.model
  pub precedence : readings.precedence.before ≡ files.precedence
  pub blocks : option_map (λ reading. reading.before) readings.blocks ≡ files.blocks
  pub history : option_map (λ reading. reading.before) readings.history ≡ files.history

abbrev pub read_from_step : Step CliFault KnownLive LiveReadings
read_from_step = judge_step AreReadFrom (λ files fault. ⊥)

-- all is read, and then planners sit down
abbrev pub ready_live : ℕ → Filing → Writing → Type 0 → LiveReadings → Step CliFault (Unit {0}) Status
ready_live planners filing lines IsUntouched readings =
    in_turn (prepare_run readings.model readings.precedence readings.blocks readings.history) (run_step (λ start. live_run start planners filing lines) IsUntouched)

-- the history is carried on once its file is held: where it is there it is read as an input
abbrev pub held_live : Told → LiveWords → Filing → Writing → Type 0 → Step CliFault (Unit {0}) Status
held_live told words filing lines IsUntouched =
    in_turn (judge_step (λ _ is_there. told.is_there words.history.now ≢ Some (not is_there)) (λ _ fault. ⊥))
    (in_turn (run_step (live_files_step told words) (Unit {0}))
    (in_turn read_from_step (run_step (ready_live (planner_count words.streams) filing lines IsUntouched) IsUntouched)))

-- What `live` does on the files that the words name. The history is held before a file is opened.
abbrev pub live_by : Told → LiveWords → Writing → Type 0 → Step CliFault (Unit {0}) Status
live_by told words lines IsQuiet =
    in_turn (held_step told words) (run_step (λ filing. held_live told words filing lines ((filing.after ≡ filing.before) × IsQuiet)) IsQuiet)
