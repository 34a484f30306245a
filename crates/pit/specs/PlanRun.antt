-- A run of `plan`, by what is told of the files that its words name.
use Rattle.std.specs.Prelude.{◌≡◌, ◌≢◌, ℕ, Bool, true, false, not, List, ◌∷◌, ◌++◌, map, Option, Some, None, is_some, option_to_list, IfSome}
use Rattle.pit_step.specs.declared.input.Input.{Input}
use Rattle.pit_step.specs.declared.status.Status.{Status}
use Rattle.pit_step.specs.declared.fault.CliFault.{CliFault}
use Rattle.pit_step.specs.declared.fault.CliFault.TheVariants.{NoMemory}
use Rattle.pit_step.specs.Devices.{Reading, Writing, IsWhole, IsInputFault}
use Rattle.pit_step.specs.Steps.{Step, in_turn, beside, judge_step, may_step, run_step, each}
use Rattle.pit_file.specs.declared.fault.FileFault.{FileFault}
use Rattle.pit_opening.specs.Beginnings.{Begun, is_carried_on as carries_on}
use Rattle.pit_opening.specs.Beginnings.Begun.{nothing, scheduled, carried_on, unbegun}
use Rattle.pit_cli.specs.Texts.{Texts}
use Rattle.pit_output.specs.Outputs.{Keeping}
use Rattle.pit_cli.specs.Output.{plan_run}
use Rattle.pit_keyed.specs.declared.keys.Keys.{Keys}
use Rattle.pit_cli.specs.declared.plan_options.PlanOptions.{PlanOptions}
use Rattle.pit_command.specs.declared.origin.Origin.{Origin}
use Rattle.pit_command.specs.declared.plan_words.PlanWords.{PlanWords}
use Rattle.pit.specs.Files.{Told}
use Rattle.pit.specs.Histories.{is_continued, kept_path, history_is_there, history_refusal, IsNewOutput, IsUnready}
use Rattle.pit.specs.OpenFiles.{files_step, held_at}
use Rattle.pit.specs.Sources.{plan_files, has_begun}

-- ---- the texts

-- a file of which this is known is read whole, or there is a fault in reading it
pub record IsRead (before : Option (List ℕ)) (bytes : List ℕ) : Type 0 where
  pub reading : Reading
  pub before_is : reading.before ≡ before
  pub whole : IsWhole reading bytes

pub record IsUnread (input : Input) (before : Option (List ℕ)) (fault : CliFault) : Type 0 where
  pub reading : Reading
  pub before_is : reading.before ≡ before
  pub fails : IsInputFault reading input fault

abbrev pub read_step : Input × Option (List ℕ) → Step CliFault (Unit {0}) (List ℕ)
read_step file = judge_step (λ _. IsRead file.1) (λ _. IsUnread file.0 file.1)

-- each in turn
abbrev pub read_all : List (Input × Option (List ℕ)) → Step CliFault (Unit {0}) (List (List ℕ))
read_all files = each (λ number. read_step) 1 files

-- there may be no memory for the list of them
abbrev pub read_each : List (Input × Option (List ℕ)) → Step CliFault (Unit {0}) (List (List ℕ))
read_each files = in_turn (may_step NoMemory) (read_all files)

-- the text of what a plan begins with
abbrev pub begin_text : Begun → Option (List ℕ)
begin_text nothing = None
begin_text (scheduled text) = Some text
begin_text (carried_on text) = Some text
begin_text unbegun = None

-- the texts in the order of their inputs
abbrev pub all_texts : Texts → List (List ℕ)
all_texts texts = texts.model ∷ texts.precedence ∷ (option_to_list texts.blocks ++ (option_to_list (begin_text texts.beginning) ++ texts.scripts))

-- they are those of the inputs that the words name
pub record AreInOrder (words : PlanWords) (is_there : Bool) (all : List (List ℕ)) (texts : Texts) : Type 0 where
  pub order : all_texts texts ≡ all
  pub blocks : is_some texts.blocks ≡ is_some words.blocks
  pub begun : is_some (begin_text texts.beginning) ≡ has_begun words.origin is_there
  pub continued : carries_on texts.beginning ≡ is_continued words.origin

-- all files are opened, none of them is the history's, and then each is read
abbrev pub texts_step : Told → PlanWords → Bool → Step CliFault (Unit {0}) Texts
texts_step told words is_there =
    in_turn (files_step told words.origin (plan_files words is_there))
    (in_turn (run_step (λ readings. read_each (map (held_at told) (plan_files words is_there))) (Unit {0})) (judge_step (AreInOrder words is_there) (λ all fault. ⊥)))

-- ---- the history

-- a history has an output where it is named, to which nothing is written yet
pub record IsReady (refusal : Option (Option FileFault)) (origin : Origin) (kept : Option Keeping) : Type 0 where
  pub named : is_some kept ≡ is_some (kept_path origin)
  pub sound : IfSome refusal (λ told. told ≡ None)
  pub new : IfSome kept (λ output. IsNewOutput output.before)

abbrev pub history_step : {A : Type 0} → Told → Origin → Step CliFault A (Option Keeping)
history_step told origin = judge_step (λ _. IsReady (history_refusal told origin) origin) (λ _. IsUnready (history_refusal told origin) origin)

-- ---- the run

-- how the words have a plan run and reported
abbrev pub plan_options : Keys → PlanWords → PlanOptions
plan_options keys words = record { retries = words.retries; is_in_turn = words.is_in_turn; is_strict = words.is_strict; keys = keys }

-- a history is carried on once its output is ready: where it is there it is read as an input
abbrev pub held_run : Told → PlanWords → PlanOptions → Writing → Writing → Option Keeping → Type 0 → Step CliFault (Unit {0}) Status
held_run told words options out lines kept IsUntouched =
    in_turn (judge_step (λ _ is_there. history_is_there told words.origin ≢ Some (not is_there)) (λ _ fault. ⊥))
    (in_turn (run_step (texts_step told words) (Unit {0}))
    (run_step (λ texts. plan_run texts options out lines kept) IsUntouched))

-- What `plan` does on the texts that the files give. The output of a history that is carried on is made ready before a file is opened, another one
-- once all are read. Before both the other outputs are left alone.
abbrev pub plan_by : Bool → Told → PlanWords → PlanOptions → Writing → Writing → Type 0 → Step CliFault (Unit {0}) Status
plan_by true told words options out lines IsUntouched =
    in_turn (history_step told words.origin) (run_step (λ kept. held_run told words options out lines kept IsUntouched) IsUntouched)
plan_by false told words options out lines IsUntouched =
    in_turn (texts_step told words false)
    (in_turn (beside (history_step told words.origin)) (run_step (λ pair. plan_run pair.0 options out lines pair.1) IsUntouched))
