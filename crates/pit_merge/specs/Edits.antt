-- An edit, by its text.
use Rattle.std.specs.Prelude.{◌≡◌, ◌⊎◌, ℕ, Bool, true, false, List, take, Option}
use Rattle.pit_model.specs.Pit.{Pit}
use Rattle.pit_plan.specs.Schedule.{Commit}
use Rattle.pit_desk.specs.History.{Answered, commits_of}
use Rattle.pit_lines.specs.Lines.{StandsForHistory}
use Rattle.pit_step.specs.declared.input.Input.TheVariants as input
use Rattle.pit_step.specs.declared.fault.CliFault.{CliFault}
use Rattle.pit_step.specs.Steps.{Step}
use Rattle.pit_step.specs.Devices.{Reading, input_step}
use Rattle.pit_state.specs.States.{is_history, IsStateOf, IsStateFault}
use Rattle.pit_base.specs.Bases.{IsHistoryBase, IsRevising, IsSolutionBase, IsSolutionBaseFault, fault_of}
use Rattle.pit_base.specs.Held.{AreLeft}
use Rattle.pit_base.specs.declared.error.BaseFault.{BaseFault}
use Rattle.pit_base.specs.declared.error.BaseFault.TheVariants.{RevisedLimit}
use Rattle.pit_edit.specs.Changes.{Edit}
use Rattle.pit_edit.specs.Merging.{Merging, IsMerged}
use Rattle.pit_merge.specs.declared.options.MergeOptions.{MergeOptions}

-- what edits are read on: a pit, the entries that the merge began with, and whether they are those of a history
pub record Ground : Type 0 where
  pub pit : Pit
  pub ours : List Answered
  pub is_resumed : Bool

-- where a merge stands: what it began with, and the edits so far
pub record Merged : Type 0 where
  pub ours : List Answered
  pub is_resumed : Bool
  pub merging : Merging

abbrev pub ground_of : Merged → Ground
ground_of merged = record { pit = merged.merging.desk.plan.pit; ours = merged.ours; is_resumed = merged.is_resumed }

-- ---- what an edit was made from

-- its history shares so many commits
pub record IsSharedBase (ours : List Answered) (text : List ℕ) (count : ℕ) : Type 0 where
  pub entries : List Answered
  pub stands : StandsForHistory text entries
  pub base : IsHistoryBase ours entries count

-- a commit that isn't shared revises a limit
pub record IsRevisingText (ours : List Answered) (text : List ℕ) : Type 0 where
  pub entries : List Answered
  pub stands : StandsForHistory text entries
  pub later : IsRevising ours entries

-- so many of the commits; by whether the text is that of a history
abbrev pub IsBaseBy : Bool → Ground → Option ℕ → List ℕ → ℕ → Type 0
IsBaseBy true ground from text count = IsSharedBase ground.ours text count
IsBaseBy false ground from text count = IsSolutionBase ground.ours ground.is_resumed from text count

-- nothing says it, or what says it is wrong
abbrev pub IsBaseFaultBy : Bool → Ground → Option ℕ → List ℕ → BaseFault → Type 0
IsBaseFaultBy true ground from text fault = (fault ≡ RevisedLimit) × IsRevisingText ground.ours text
IsBaseFaultBy false ground from text fault = IsSolutionBaseFault ground.ours ground.is_resumed from text fault

-- ---- the edit

-- what it is made from, and what it wants: the schedule that its text stands for
pub record IsWanted (ground : Ground) (from : Option ℕ) (text : List ℕ) (start : ℕ) (wanted : List (Option ℕ)) : Type 0 where
  pub commits : List Commit
  pub stands : IsStateOf ground.pit text commits
  pub left : AreLeft ground.pit.blocks commits wanted
  pub base : IsBaseBy (is_history text) ground from text start

-- its base is the schedule that so many of the commits leave
pub record IsEditOf (ground : Ground) (from : Option ℕ) (number : ℕ) (text : List ℕ) (edit : Edit) : Type 0 where
  pub number_is : edit.number ≡ number
  pub wanted : IsWanted ground from text edit.start edit.wanted
  pub base : AreLeft ground.pit.blocks (take edit.start (commits_of ground.ours)) edit.base

-- ---- its fault

-- the text stands for a schedule, and its base isn't known
pub record IsBaseless (ground : Ground) (from : Option ℕ) (number : ℕ) (text : List ℕ) (fault : CliFault) : Type 0 where
  pub commits : List Commit
  pub stands : IsStateOf ground.pit text commits
  pub why : BaseFault
  pub fails : IsBaseFaultBy (is_history text) ground from text why
  pub fault_is : fault ≡ fault_of (input.Edit number) why

-- a fault of the text comes first, and then one of its base; memory may run out wherever the text stands for a schedule
abbrev pub IsEditFault : Ground → Option ℕ → ℕ → List ℕ → CliFault → Type 0
IsEditFault ground from number text fault = IsStateFault (input.Edit number) ground.pit text fault ⊎ IsBaseless ground from number text fault

-- ---- the step

-- the edit of the text is merged
pub record IsTaken (options : MergeOptions) (number : ℕ) (text : List ℕ) (old new : Merged) : Type 0 where
  pub edit : Edit
  pub is_edit : IsEditOf (ground_of old) options.from number text edit
  pub same_ours : new.ours ≡ old.ours
  pub same_resumed : new.is_resumed ≡ old.is_resumed
  pub merged : IsMerged options.is_partial edit old.merging new.merging

-- an edit is read whole, and then merged
abbrev pub edit_step : MergeOptions → ℕ → Reading → Step CliFault Merged Merged
edit_step options number source =
    input_step (input.Edit number) source (λ given text new. IsTaken options number text given new) (λ given text fault. IsEditFault (ground_of given) options.from number text fault)
