-- The inputs: the words that faults name them with, and what their texts stand for.
use Rattle.std.specs.Prelude.{◌≡◌, ◌⊎◌, ℕ, ℤ, ◌++◌, List, Option, Some, None, codes, decimal}
use Rattle.pit_model.specs.Pit.{Pit}
use Rattle.pit_text.specs.declared.error.TextError.{TextError}
use Rattle.pit_text.specs.Cutting.{cut_of, end_line}
use Rattle.pit_text.specs.Causes.{cause_of}
use Rattle.pit_text.specs.Stands.{StandsFor, StopsAt, FailsFirst, StandsWhole, FailsWhole, NamesFault}
use Rattle.pit_text.specs.Model.{model_line, model_end, pit_of, ModelStops}
use Rattle.pit_text.specs.Precedence.{precedence_line, pit_with_preds}
use Rattle.pit_text.specs.Blocks.{block_line, pit_with_places}
use Rattle.pit_model.specs.Fitting.{IsSchedule}
use Rattle.pit_desk.specs.History.{Answered}
use Rattle.pit_lines.specs.Lines.{StandsForHistory, HasFirstFault, StopsAtLine}
use Rattle.pit_text.specs.Solution.{solution_line, period_in, schedule_of, SolutionStops}
use Rattle.pit_step.specs.declared.input.Input.{Input}
use Rattle.pit_step.specs.declared.input.Input.TheVariants.{Model, Precedence, Blocks, Start, Solution, Script, History, Schedule, Old, New, Edit}
use Rattle.pit_step.specs.declared.fault.CliFault.{CliFault}
use Rattle.pit_step.specs.declared.fault.CliFault.TheVariants as fault
use Rattle.pit_step.specs.Steps.{Step, in_turn, judge_step}
use Rattle.pit_step.specs.Devices.{Reading, IsTextFault, input_step}

abbrev pub input_name : Input → List ℕ
input_name Model = codes "model"
input_name Precedence = codes "precedence"
input_name Blocks = codes "blocks"
input_name Start = codes "start"
input_name Solution = codes "solution"
input_name (Script number) = codes "script " ++ decimal number
input_name History = codes "history"
input_name Schedule = codes "schedule"
input_name Old = codes "old"
input_name New = codes "new"
input_name (Edit number) = codes "edit " ++ decimal number

-- a text stands for facts, and these say a value
pub record StandsAs {F B : Type 0} (Stands : List F → Type 0) (value_of : List F → B) (value : B) : Type 0 where
  pub facts : List F
  pub stands : Stands facts
  pub says : value ≡ value_of facts

-- a model that stands for a pit, and one with its first error
abbrev pub IsModel : List ℕ → Pit → Type 0
IsModel bytes = StandsAs (StandsWhole model_line model_end (cut_of bytes)) pit_of

abbrev pub IsBadModel : List ℕ → TextError → Type 0
IsBadModel bytes error = NamesFault cause_of (FailsWhole model_line model_end (cut_of bytes) (end_line bytes) error.line) error.cause

-- precedences that stand for a pit, of one that is given; and one with its first error
abbrev pub IsOrder : Pit → List ℕ → Pit → Type 0
IsOrder given bytes = StandsAs (StandsFor (precedence_line given) (cut_of bytes)) (pit_with_preds given)

abbrev pub IsBadOrder : Pit → List ℕ → TextError → Type 0
IsBadOrder given bytes error = NamesFault cause_of (FailsFirst (precedence_line given) (cut_of bytes) error.line) error.cause

-- places of blocks that stand for a pit, of one that is given; and places with their first error
abbrev pub IsPlaced : Pit → List ℕ → Pit → Type 0
IsPlaced given bytes = StandsAs (StandsFor (block_line given) (cut_of bytes)) (pit_with_places given)

abbrev pub IsBadPlaces : Pit → List ℕ → TextError → Type 0
IsBadPlaces given bytes error = NamesFault cause_of (FailsFirst (block_line given) (cut_of bytes) error.line) error.cause

-- a solution of a pit, its blocks with their periods by rising block, and one with its first error
abbrev pub IsSolutionOf : Pit → List ℕ → List (ℕ × ℕ) → Type 0
IsSolutionOf pit bytes = StandsAs (StandsFor (solution_line pit.blocks pit.periods) (cut_of bytes)) (λ facts. schedule_of pit.blocks (period_in facts))

abbrev pub IsBadSolution : Pit → List ℕ → TextError → Type 0
IsBadSolution pit bytes error = NamesFault cause_of (FailsFirst (solution_line pit.blocks pit.periods) (cut_of bytes) error.line) error.cause

-- ---- where there is no memory for what a text says: at a line, where none so far has a fault, or behind the whole text, which has none

unfoldable pub IsModelStop : List ℕ → Type 0
IsModelStop bytes = (place : ℕ) × ModelStops (cut_of bytes) (end_line bytes) place

unfoldable pub IsOrderStop : Pit → List ℕ → Type 0
IsOrderStop given bytes =
    ((place : ℕ) × StopsAt (precedence_line given) (cut_of bytes) place) ⊎ ((facts : List (ℕ × List ℕ)) × StandsFor (precedence_line given) (cut_of bytes) facts)

unfoldable pub IsPlacesStop : Pit → List ℕ → Type 0
IsPlacesStop given bytes =
    ((place : ℕ) × StopsAt (block_line given) (cut_of bytes) place) ⊎ ((facts : List (ℕ × (ℤ × ℤ × ℤ))) × StandsFor (block_line given) (cut_of bytes) facts)

unfoldable pub IsSolutionStop : Pit → List ℕ → Type 0
IsSolutionStop pit bytes =
    ((place : ℕ) × SolutionStops pit.blocks pit.periods (cut_of bytes) (end_line bytes) place)
    ⊎ ((facts : List (Option (ℕ × ℕ))) × StandsFor (solution_line pit.blocks pit.periods) (cut_of bytes) facts)

-- ---- schedules

-- the blocks of a schedule rise, and blocks and periods are those of the pit
abbrev pub IsScheduleOf : Pit → List (ℕ × ℕ) → Type 0
IsScheduleOf pit schedule = IsSchedule pit.blocks pit.periods schedule

-- ---- the faults of texts

abbrev pub IsModelFault : List ℕ → CliFault → Type 0
IsModelFault bytes = IsTextFault Model (IsBadModel bytes) (IsModelStop bytes)

abbrev pub IsOrderFault : Pit → List ℕ → CliFault → Type 0
IsOrderFault given bytes = IsTextFault Precedence (IsBadOrder given bytes) (IsOrderStop given bytes)

abbrev pub IsPlacesFault : Pit → List ℕ → CliFault → Type 0
IsPlacesFault given bytes = IsTextFault Blocks (IsBadPlaces given bytes) (IsPlacesStop given bytes)

-- of the file that is named
abbrev pub IsSolutionFault : Input → Pit → List ℕ → CliFault → Type 0
IsSolutionFault file pit bytes = IsTextFault file (IsBadSolution pit bytes) (IsSolutionStop pit bytes)

-- of a history, the file that is named, which has this first fault, or memory runs out at a line before which none has one
abbrev pub IsHistoryFault : Input → List ℕ → CliFault → Type 0
IsHistoryFault file bytes (fault.Lines f error) = (f ≡ file) × HasFirstFault bytes error.line error.cause
IsHistoryFault file bytes fault.NoMemory = (place : ℕ) × StopsAtLine bytes place
IsHistoryFault file bytes other = ⊥

-- ---- the steps

abbrev pub model_step : Reading → Step CliFault (Unit {0}) Pit
model_step model = input_step Model model (λ _. IsModel) (λ _. IsModelFault)

abbrev pub order_step : Reading → Step CliFault Pit Pit
order_step precedence = input_step Precedence precedence IsOrder IsOrderFault

abbrev pub places_step : Reading → Step CliFault Pit Pit
places_step blocks = input_step Blocks blocks IsPlaced IsPlacesFault

-- the places, or the pit as it is where there is no source for them
abbrev pub places_if_step : Option Reading → Step CliFault Pit Pit
places_if_step None = judge_step (λ given value. value ≡ given) (λ given fault. ⊥)
places_if_step (Some blocks) = places_step blocks

abbrev pub solution_step : Reading → Step CliFault Pit (List (ℕ × ℕ))
solution_step solution = input_step Solution solution IsSolutionOf (IsSolutionFault Solution)

abbrev pub history_step : Reading → Step CliFault (Unit {0}) (List Answered)
history_step history = input_step History history (λ _. StandsForHistory) (λ _. IsHistoryFault History)

-- the model, and then the precedences
abbrev pub ordered_pit_step : Reading → Reading → Step CliFault (Unit {0}) Pit
ordered_pit_step model precedence = in_turn (model_step model) (order_step precedence)

-- the model, the precedences, and then the places, where there is a source for them
abbrev pub placed_pit_step : Reading → Reading → Option Reading → Step CliFault (Unit {0}) Pit
placed_pit_step model precedence blocks = in_turn (ordered_pit_step model precedence) (places_if_step blocks)
