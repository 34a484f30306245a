-- What the text of a schedule stands for: a solution or a history, and the commits of either.
use Rattle.std.specs.Prelude.{◌≡◌, ◌⊎◌, ℕ, ◌+◌, ◌==◌, ◌||◌, not, Bool, true, false, List, [], ◌∷◌, ◌++◌, length, unwrap_or, find, All}
use Rattle.pit_model.specs.Pit.{Pit}
use Rattle.pit_plan.specs.Schedule.{Commit, commit_of_schedule}
use Rattle.pit_plan.specs.Standing.{Standing, IsPlanOf}
use Rattle.pit_desk.specs.History.{Answered, CallFits, commits_of}
use Rattle.pit_lines.specs.Lines.{StandsForHistory}
use Rattle.pit_step.specs.declared.input.Input.{Input}
use Rattle.pit_step.specs.declared.fault.CliFault.{CliFault}
use Rattle.pit_step.specs.declared.fault.CliFault.TheVariants.{Illegal, NoMemory}
use Rattle.pit_step.specs.Steps.{Step}
use Rattle.pit_step.specs.Devices.{Reading, input_step}
use Rattle.pit_step.specs.Inputs.{IsSolutionOf, IsSolutionFault, IsHistoryFault}

-- ---- which of the two a text is

-- a byte other than a space, a tab, a carriage return and a line feed
abbrev pub is_ink : ℕ → Bool
is_ink b = not (b == 32 || b == 9 || b == 13 || b == 10)

-- the first of these is a `{`
abbrev pub is_history : List ℕ → Bool
is_history text = unwrap_or (find is_ink text) 0 == 123

-- ---- a solution

-- the one commit of a schedule, and none where it mines no block
abbrev pub commits_of_schedule : List (ℕ × ℕ) → List Commit
commits_of_schedule [] = []
commits_of_schedule (pair ∷ more) = commit_of_schedule (pair ∷ more) ∷ []

pub record IsSolutionState (pit : Pit) (text : List ℕ) (commits : List Commit) : Type 0 where
  pub schedule : List (ℕ × ℕ)
  pub stands : IsSolutionOf pit text schedule
  pub are : commits ≡ commits_of_schedule schedule

-- ---- a history

-- blocks, resources and periods of each entry are those of the pit
abbrev pub EachFits : Pit → List Answered → Type 0
EachFits pit entries = All (λ e. CallFits pit e.call) entries

-- no reply is looked at
pub record IsHistoryState (pit : Pit) (text : List ℕ) (commits : List Commit) : Type 0 where
  pub entries : List Answered
  pub stands : StandsForHistory text entries
  pub fits : EachFits pit entries
  pub are : commits ≡ commits_of entries

-- the first place, counted from 1, whose entry doesn't fit
pub record IsFirstUnfit (pit : Pit) (entries : List Answered) (place : ℕ) : Type 0 where
  pub before : List Answered
  pub entry : Answered
  pub after : List Answered
  pub cut : entries ≡ before ++ entry ∷ after
  pub number : place ≡ length before + 1
  pub fits : EachFits pit before
  pub unfit : CallFits pit entry.call → ⊥

-- an entry doesn't fit, or memory runs out
abbrev pub IsUnfit : Input → Pit → List Answered → CliFault → Type 0
IsUnfit file pit entries (Illegal f place) = (f ≡ file) × IsFirstUnfit pit entries place
IsUnfit file pit entries NoMemory = Unit {0}
IsUnfit file pit entries other = ⊥

-- a fault of the text comes first, and then one of its entries
abbrev pub IsHistoryStateFault : Input → Pit → List ℕ → CliFault → Type 0
IsHistoryStateFault file pit text fault =
    IsHistoryFault file text fault ⊎ ((entries : List Answered) × StandsForHistory text entries × IsUnfit file pit entries fault)

-- ---- either

abbrev pub IsStateBy : Bool → Pit → List ℕ → List Commit → Type 0
IsStateBy true = IsHistoryState
IsStateBy false = IsSolutionState

abbrev pub IsStateFaultBy : Bool → Input → Pit → List ℕ → CliFault → Type 0
IsStateFaultBy true = IsHistoryStateFault
IsStateFaultBy false = IsSolutionFault

-- the text stands for these commits
unfoldable pub IsStateOf : Pit → List ℕ → List Commit → Type 0
IsStateOf pit text commits = IsStateBy (is_history text) pit text commits

-- of the file that is named, a fault of the text, or there is no memory for what it says
unfoldable pub IsStateFault : Input → Pit → List ℕ → CliFault → Type 0
IsStateFault file pit text fault = IsStateFaultBy (is_history text) file pit text fault

-- the plan is what the commits leave that the text stands for
pub record IsPlanRead (pit : Pit) (text : List ℕ) (plan : Standing) : Type 0 where
  pub commits : List Commit
  pub stands : IsStateOf pit text commits
  pub same_pit : plan.pit ≡ pit
  pub leaves : IsPlanOf plan commits

-- ---- the steps

abbrev pub state_step : Input → Reading → Step CliFault Pit (List Commit)
state_step file schedule = input_step file schedule IsStateOf (IsStateFault file)

abbrev pub plan_step : Input → Reading → Step CliFault Pit Standing
plan_step file schedule = input_step file schedule IsPlanRead (IsStateFault file)
