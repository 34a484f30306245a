-- What an edit wants, by the entries or the schedule that its text stands for.
use Rattle.std.specs.Prelude.{◌≡◌, ◌⊎◌, ℕ, List, Option}
use Rattle.pit_desk.specs.History.{Answered, commits_of}
use Rattle.pit_step.specs.declared.input.Input.{Input}
use Rattle.pit_step.specs.declared.fault.CliFault.{CliFault}
use Rattle.pit_step.specs.declared.fault.CliFault.TheVariants.{NoMemory}
use Rattle.pit_state.specs.States.{commits_of_schedule, EachFits, IsUnfit}
use Rattle.pit_base.specs.Bases.{IsHistoryBase, IsRevising, IsSolutionBase, IsSolutionBaseFault, fault_of}
use Rattle.pit_base.specs.Held.{AreLeft}
use Rattle.pit_base.specs.declared.error.BaseFault.{BaseFault}
use Rattle.pit_base.specs.declared.error.BaseFault.TheVariants.{RevisedLimit}
use Rattle.pit_merge.specs.Edits.{Ground}

pub record IsByEntries (ground : Ground) (entries : List Answered) (start : ℕ) (wanted : List (Option ℕ)) : Type 0 where
  pub fits : EachFits ground.pit entries
  pub left : AreLeft ground.pit.blocks (commits_of entries) wanted
  pub base : IsHistoryBase ground.ours entries start

-- an entry doesn't fit, or memory runs out; or each fits, and a later one revises a limit
abbrev pub IsEntriesFault : Ground → Input → List Answered → CliFault → Type 0
IsEntriesFault ground file entries fault =
    IsUnfit file ground.pit entries fault ⊎ (EachFits ground.pit entries × IsRevising ground.ours entries × (fault ≡ fault_of file RevisedLimit))

pub record IsBySchedule (ground : Ground) (from : Option ℕ) (schedule : List (ℕ × ℕ)) (text : List ℕ) (start : ℕ) (wanted : List (Option ℕ)) : Type 0 where
  pub left : AreLeft ground.pit.blocks (commits_of_schedule schedule) wanted
  pub base : IsSolutionBase ground.ours ground.is_resumed from text start

-- memory runs out, or the base isn't known
abbrev pub IsScheduleFault : Ground → Option ℕ → Input → List ℕ → CliFault → Type 0
IsScheduleFault ground from file text fault =
    (fault ≡ NoMemory) ⊎ ((why : BaseFault) × IsSolutionBaseFault ground.ours ground.is_resumed from text why × (fault ≡ fault_of file why))
