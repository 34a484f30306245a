-- What an edit was made from: how many of the commits that a merge begins with.
use Rattle.std.specs.Prelude.{◌≡◌, ◌≢◌, ℕ, ◌≤◌, ◌<◌, Bool, true, false, List, [], ◌∷◌, ◌++◌, length, drop, Option, Some, None, All, Any}
use Rattle.hex.specs.Hex.{encode_lower}
use Rattle.pit_plan.specs.Schedule.{Commit}
use Rattle.pit_desk.specs.History.{Answered, commits_of}
use Rattle.pit_show.specs.Fronts.{IsFront}
use Rattle.pit_show.specs.ShowText.{sum_of}
use Rattle.pit_base.specs.Marks.{IsMarkOf}
use Rattle.pit_base.specs.declared.error.BaseFault.{BaseFault}
use Rattle.pit_base.specs.declared.error.BaseFault.TheVariants as why
use Rattle.pit_base.specs.declared.error.BaseFault.TheVariants.{AnotherHistory, BaseMissing, FewCommits, NoMemory}
use Rattle.pit_step.specs.declared.input.Input.{Input}
use Rattle.pit_step.specs.declared.fault.CliFault.{CliFault}
use Rattle.pit_step.specs.declared.fault.CliFault.TheVariants as cli

-- ---- a history

-- the entries that both begin with: behind them the next ones aren't the same, if both have one
pub record IsCommonFront (ours theirs front : List Answered) : Type 0 where
  pub rest : List Answered
  pub other : List Answered
  pub ours_is : ours ≡ front ++ rest
  pub theirs_is : theirs ≡ front ++ other
  pub apart : (e : Answered) (more others : List Answered) → rest ≡ e ∷ more → other ≡ e ∷ others → ⊥

-- none of the commits revises a limit; and one does
abbrev pub ReviseNone : List Commit → Type 0
ReviseNone commits = All (λ (commit : Commit). commit.revises ≡ []) commits

abbrev pub ReviseSome : List Commit → Type 0
ReviseSome commits = Any (λ (commit : Commit). commit.revises ≢ []) commits

-- so many commits are shared, and the later ones revise no limit
pub record IsHistoryBase (ours theirs : List Answered) (count : ℕ) : Type 0 where
  pub front : List Answered
  pub is_front : IsCommonFront ours theirs front
  pub count_is : count ≡ length (commits_of front)
  pub later : ReviseNone (drop count (commits_of theirs))

-- a later one does
pub record IsRevising (ours theirs : List Answered) : Type 0 where
  pub front : List Answered
  pub is_front : IsCommonFront ours theirs front
  pub later : ReviseSome (drop (length (commits_of front)) (commits_of theirs))

-- ---- a solution

-- so many commits are there, and the entries up to the last of them have this sum
pub record IsMarkedBase (ours : List Answered) (mark : ℕ × List ℕ) (count : ℕ) : Type 0 where
  pub count_is : count ≡ mark.0
  pub front : List Answered
  pub is_front : IsFront ours count front
  pub sum : mark.1 ≡ encode_lower (sum_of front)

-- as many commits as were asked for; or all, unless a history was resumed
abbrev pub IsPlainBase : List Answered → Bool → Option ℕ → ℕ → Type 0
IsPlainBase ours is_resumed (Some asked) count = (count ≡ asked) × (asked ≤ length (commits_of ours))
IsPlainBase ours false None count = count ≡ length (commits_of ours)
IsPlainBase ours true None count = ⊥

abbrev pub IsBaseBy : List Answered → Bool → Option ℕ → Option (ℕ × List ℕ) → ℕ → Type 0
IsBaseBy ours is_resumed from (Some mark) count = IsMarkedBase ours mark count
IsBaseBy ours is_resumed from None count = IsPlainBase ours is_resumed from count

-- its first line says what it was made from, or, where that isn't of a history, the caller does
pub record IsSolutionBase (ours : List Answered) (is_resumed : Bool) (from : Option ℕ) (text : List ℕ) (count : ℕ) : Type 0 where
  pub mark : Option (ℕ × List ℕ)
  pub is_mark : IsMarkOf text mark
  pub base : IsBaseBy ours is_resumed from mark count

-- there are fewer commits than were asked for; or a history was resumed, and nothing was asked for
abbrev pub IsPlainFault : List Answered → Bool → Option ℕ → BaseFault → Type 0
IsPlainFault ours is_resumed (Some asked) (FewCommits commits) = (commits ≡ length (commits_of ours)) × (length (commits_of ours) < asked)
IsPlainFault ours true None BaseMissing = Unit {0}
IsPlainFault ours is_resumed from other = ⊥

-- there are fewer commits, or they have another sum; or there is no memory for the sum
abbrev pub IsMarkedFault : List Answered → ℕ × List ℕ → BaseFault → Type 0
IsMarkedFault ours mark AnotherHistory = (count : ℕ) → IsMarkedBase ours mark count → ⊥
IsMarkedFault ours mark NoMemory = mark.0 ≤ length (commits_of ours)
IsMarkedFault ours mark other = ⊥

abbrev pub IsFaultBy : List Answered → Bool → Option ℕ → Option (ℕ × List ℕ) → BaseFault → Type 0
IsFaultBy ours is_resumed from (Some mark) fault = IsMarkedFault ours mark fault
IsFaultBy ours is_resumed from None fault = IsPlainFault ours is_resumed from fault

pub record IsSolutionBaseFault (ours : List Answered) (is_resumed : Bool) (from : Option ℕ) (text : List ℕ) (fault : BaseFault) : Type 0 where
  pub mark : Option (ℕ × List ℕ)
  pub is_mark : IsMarkOf text mark
  pub fails : IsFaultBy ours is_resumed from mark fault

-- ---- the fault of the file that is named

abbrev pub fault_of : Input → BaseFault → CliFault
fault_of file why.RevisedLimit = cli.RevisedLimit file
fault_of file AnotherHistory = cli.AnotherHistory file
fault_of file BaseMissing = cli.BaseMissing file
fault_of file (FewCommits commits) = cli.FewBaseCommits file commits
fault_of file NoMemory = cli.NoMemory
