-- What the text of a beginning stands for, and its first fault.
use Rattle.std.specs.Prelude.{◌≡◌, ℕ, Bool, true, false, List, [], Option, Some, None}
use Rattle.pit_model.specs.Pit.{Pit}
use Rattle.pit_desk.specs.History.{Answered}
use Rattle.pit_lines.specs.Lines.{StandsForHistory}
use Rattle.pit_lines.specs.Torn.{IsMended}
use Rattle.pit_state.specs.States.{is_history}
use Rattle.pit_step.specs.declared.input.Input.{Input}
use Rattle.pit_step.specs.declared.input.Input.TheVariants.{Start, History}
use Rattle.pit_step.specs.declared.fault.CliFault.{CliFault}
use Rattle.pit_step.specs.Inputs.{IsSolutionOf, IsSolutionFault, IsHistoryFault}
use Rattle.pit_step.specs.Steps.{Step, judge_step}
use Rattle.pit_step.specs.Devices.{Reading, input_step}
use Rattle.pit_opening.specs.Openings.{Opened, started, resumed}

-- nothing, the text of a schedule, that of a history which is carried on, or a history that is to be carried on and isn't there yet
pub data Begun : Type 0 where
  nothing : Begun
  scheduled : List ℕ → Begun
  carried_on : List ℕ → Begun
  unbegun : Begun

-- whether a history is carried on
abbrev pub is_carried_on : Begun → Bool
is_carried_on nothing = false
is_carried_on (scheduled text) = false
is_carried_on (carried_on text) = true
is_carried_on unbegun = true

-- whether it isn't there yet
abbrev pub is_unbegun : Begun → Bool
is_unbegun unbegun = true
is_unbegun other = false

-- ---- how it is read

-- the input that it is
abbrev pub begin_input : Bool → Input
begin_input true = History
begin_input false = Start

-- a text of it, and that there is none
abbrev pub begun_with : Bool → List ℕ → Begun
begun_with true text = carried_on text
begun_with false text = scheduled text

abbrev pub begun_without : Bool → Begun
begun_without true = unbegun
begun_without false = nothing

-- its input is read where there is one
abbrev pub begin_step : {A : Type 0} → Bool → Option Reading → Step CliFault A Begun
begin_step is_carried_on None = judge_step (λ given begun. begun ≡ begun_without is_carried_on) (λ given fault. ⊥)
begin_step is_carried_on (Some source) =
    input_step (begin_input is_carried_on) source (λ given bytes begun. begun ≡ begun_with is_carried_on bytes) (λ given bytes fault. ⊥)

-- ---- a torn end

-- so many bytes are left out of the text
pub record IsMendedText (text : List ℕ) (begun : Begun) (cut : ℕ) : Type 0 where
  pub left : List ℕ
  pub mended : IsMended text left cut
  pub is : begun ≡ carried_on left

-- the torn end of a history that is carried on is left out; else it stays as it is
abbrev pub IsMendedFrom : Begun → Begun → ℕ → Type 0
IsMendedFrom (carried_on text) begun cut = IsMendedText text begun cut
IsMendedFrom given begun cut = (begun ≡ given) × (cut ≡ 0)

-- ---- what it stands for

pub record IsResumedOf (file : Input) (text : List ℕ) (opening : Opened) : Type 0 where
  pub entries : List Answered
  pub stands : StandsForHistory text entries
  pub is : opening ≡ resumed file entries

pub record IsStartedOf (pit : Pit) (text : List ℕ) (opening : Opened) : Type 0 where
  pub schedule : List (ℕ × ℕ)
  pub stands : IsSolutionOf pit text schedule
  pub is : opening ≡ started schedule

-- a schedule's text is that of a history or of a solution
abbrev pub IsStartOf : Bool → Pit → List ℕ → Opened → Type 0
IsStartOf true pit text = IsResumedOf Start text
IsStartOf false pit text = IsStartedOf pit text

abbrev pub IsOpeningOf : Pit → Begun → Opened → Type 0
IsOpeningOf pit nothing opening = opening ≡ started []
IsOpeningOf pit (scheduled text) opening = IsStartOf (is_history text) pit text opening
IsOpeningOf pit (carried_on text) opening = IsResumedOf History text opening
IsOpeningOf pit unbegun opening = opening ≡ started []

-- ---- its fault

abbrev pub IsStartFault : Bool → Pit → List ℕ → CliFault → Type 0
IsStartFault true pit text = IsHistoryFault Start text
IsStartFault false pit text = IsSolutionFault Start pit text

abbrev pub IsOpeningFault : Pit → Begun → CliFault → Type 0
IsOpeningFault pit nothing fault = ⊥
IsOpeningFault pit (scheduled text) fault = IsStartFault (is_history text) pit text fault
IsOpeningFault pit (carried_on text) fault = IsHistoryFault History text fault
IsOpeningFault pit unbegun fault = ⊥
