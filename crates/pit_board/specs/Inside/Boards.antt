-- How a board takes a commit in, and what it shows of all.
use Rattle.std.specs.Prelude.{◌≡◌, ℕ, ◌<◌, ◌==◌, List, length, slice_index_or, Option, Some, None, unwrap_or, is_some, if◌then◌else◌, nat_eq}
use Rattle.std.specs.Map.{lookup}
use Rattle.pit_plan.specs.Schedule.{Writes, Commit}
use Rattle.pit_desk.specs.History.{Answered, commits_of}
use Rattle.pit_board.specs.Boards.{slot_of}
use Rattle.pit_board.specs.declared.slot.Slot.{Slot}

-- the slot of a block that has this one before a commit with these writes, whose number is n
abbrev pub slot_after : ℕ → Writes → ℕ → Slot → Slot
slot_after n writes b before = record {
  period = unwrap_or (lookup (nat_eq b) writes) before.period;
  version = if is_some (lookup (nat_eq b) writes) then n else before.version;
}

-- a slot for each of so many blocks, which is what the commits leave of it
pub record ShowsAll (blocks : ℕ) (commits : List Commit) (slots : List Slot) : Type 0 where
  pub many : length slots ≡ blocks
  pub each : (b : ℕ) (d : Slot) → b < blocks → slice_index_or slots b d ≡ slot_of commits b

-- ---- what it takes in

-- the entries before a commit's, and with it
pub record Publishing : Type 0 where
  pub before : List Answered
  pub after : List Answered

-- a board that shows as many commits as there were before takes the commit in; of nothing, nothing is taken in
abbrev pub taken_in : List Answered → Option Publishing → List Answered
taken_in shown None = shown
taken_in shown (Some publication) = if length (commits_of shown) == length (commits_of publication.before) then publication.after else shown

-- what contracts see of the board's writer: the prefix that is published, and the operations that aren't yet
pub record WriterState : Type 0 where
  pub published : List Answered
  pub pending : List (Option Publishing)
