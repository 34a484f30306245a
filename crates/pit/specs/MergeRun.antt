-- A run of `merge`, by what is known of the files that its words name.
use Rattle.std.specs.Prelude.{◌≡◌, ◌≢◌, ℕ, Bool, true, false, not, List, ◌∷◌, ◌++◌, map, Option, Some, is_some, option_map, option_to_list}
use Rattle.pit_step.specs.declared.status.Status.{Status}
use Rattle.pit_step.specs.declared.fault.CliFault.{CliFault}
use Rattle.pit_step.specs.declared.fault.CliFault.TheVariants.{NoMemory}
use Rattle.pit_step.specs.Devices.{Reading, Writing}
use Rattle.pit_step.specs.Steps.{Step, in_turn, beside, judge_step, run_step}
use Rattle.pit_output.specs.Outputs.{Keeping}
use Rattle.pit_merge.specs.Prepared.{prepare_run}
use Rattle.pit_merge.specs.Merge.{merge_run}
use Rattle.pit_keyed.specs.declared.keys.Keys.{Keys}
use Rattle.pit_merge.specs.declared.options.MergeOptions.{MergeOptions}
use Rattle.pit_command.specs.declared.merge_words.MergeWords.{MergeWords}
use Rattle.pit.specs.Files.{Told}
use Rattle.pit.specs.Histories.{history_is_there}
use Rattle.pit.specs.OpenFiles.{files_step}
use Rattle.pit.specs.PlanRun.{history_step}
use Rattle.pit.specs.Sources.{merge_files, has_begun}

-- how the words have edits merged
abbrev pub merge_options : Keys → MergeWords → MergeOptions
merge_options keys words = record { from = words.from; is_partial = words.is_partial; keys = keys }

-- ---- the files

-- what is known of the bytes of each open file
pub record MergeFiles : Type 0 where
  pub model : Option (List ℕ)
  pub precedence : Option (List ℕ)
  pub start : Option (Option (List ℕ))
  pub edits : List (Option (List ℕ))

abbrev pub known_files : MergeFiles → List (Option (List ℕ))
known_files files = files.model ∷ files.precedence ∷ (option_to_list files.start ++ files.edits)

-- they are those of the inputs that the words name
pub record AreFiles (told : Told) (words : MergeWords) (is_there : Bool) (files : MergeFiles) : Type 0 where
  pub order : known_files files ≡ map (λ file. told.holds file.1) (merge_files words is_there)
  pub begun : is_some files.start ≡ has_begun words.origin is_there

-- all files are opened, and none of them is the history's; or there is no memory for the list of them
abbrev pub merge_files_step : Told → MergeWords → Bool → Step CliFault (Unit {0}) MergeFiles
merge_files_step told words is_there =
    in_turn (files_step told words.origin (merge_files words is_there)) (judge_step (λ _. AreFiles told words is_there) (λ _ fault. fault ≡ NoMemory))

-- ---- the run

-- what is known of each file before and after the run
pub record MergeReadings : Type 0 where
  pub model : Reading
  pub precedence : Reading
  pub start : Option Reading
  pub edits : List Reading

pub record AreFrom (files : MergeFiles) (readings : MergeReadings) : Type 0 where
  pub model : readings.model.before ≡ files.model
  pub precedence : readings.precedence.before ≡ files.precedence
  pub start : option_map (λ reading. reading.before) readings.start ≡ files.start
  pub edits : map (λ reading. reading.before) readings.edits ≡ files.edits

abbrev pub from_step : Step CliFault MergeFiles MergeReadings
from_step = judge_step AreFrom (λ files fault. ⊥)

-- the output of a history that is not carried on is made ready once what is begun with is parsed
abbrev pub begun_run : Told → MergeWords → MergeOptions → Writing → Writing → Type 0 → MergeReadings → Step CliFault (Unit {0}) Status
begun_run told words options out lines IsUntouched readings =
    in_turn (prepare_run false readings.model readings.precedence readings.start)
    (in_turn (beside (history_step told words.origin)) (run_step (λ pair. merge_run options pair.0 readings.edits out lines pair.1) IsUntouched))

-- that of one that is carried on is ready
abbrev pub ready_run : MergeOptions → Writing → Writing → Option Keeping → Type 0 → MergeReadings → Step CliFault (Unit {0}) Status
ready_run options out lines kept IsUntouched readings =
    in_turn (prepare_run true readings.model readings.precedence readings.start) (run_step (λ begun. merge_run options begun readings.edits out lines kept) IsUntouched)

-- a history is carried on once its output is ready: where it is there it is read as an input
abbrev pub held_merge : Told → MergeWords → MergeOptions → Writing → Writing → Option Keeping → Type 0 → Step CliFault (Unit {0}) Status
held_merge told words options out lines kept IsUntouched =
    in_turn (judge_step (λ _ is_there. history_is_there told words.origin ≢ Some (not is_there)) (λ _ fault. ⊥))
    (in_turn (run_step (merge_files_step told words) (Unit {0}))
    (in_turn from_step (run_step (ready_run options out lines kept IsUntouched) IsUntouched)))

-- What `merge` does on the files that the words name. The output of a history that is carried on is made ready before a file is opened. Before both the
-- other outputs are left alone.
abbrev pub merge_by : Bool → Told → MergeWords → MergeOptions → Writing → Writing → Type 0 → Step CliFault (Unit {0}) Status
merge_by true told words options out lines IsUntouched =
    in_turn (history_step told words.origin) (run_step (λ kept. held_merge told words options out lines kept IsUntouched) IsUntouched)
merge_by false told words options out lines IsUntouched =
    in_turn (merge_files_step told words false) (in_turn from_step (run_step (begun_run told words options out lines IsUntouched) IsUntouched))
