-- Changes of blocks, laid over a schedule.
use Rattle.std.specs.Prelude.{◌≡◌, ◌≢◌, ℕ, ◌<◌, nat_eq, List, map, sum_by, Option, unwrap_or, All}
use Rattle.std.specs.Map.{lookup}
use Rattle.std.specs.List.Sorted.{IsStrictlyIncreasing}
use Rattle.pit_model.specs.Pit.{Pit}
use Rattle.pit_plan.specs.Schedule.{Commit, held_period, limit_of}
use Rattle.pit_diff.specs.Changes.{Change, Move}

-- what a change gives its block, and what the schedule has of the others
abbrev pub laid : List Change → (ℕ → Option ℕ) → ℕ → Option ℕ
laid changes old b = unwrap_or (lookup (nat_eq b) (map (λ (change : Change). (change.block, change.new)) changes)) (old b)

-- a known block, with its periods, which differ
pub record IsChange (blocks : ℕ) (old new : ℕ → Option ℕ) (change : Change) : Type 0 where
  pub known : change.block < blocks
  pub before : change.old ≡ old change.block
  pub after : change.new ≡ new change.block
  pub differ : change.old ≢ change.new

-- the blocks of changes rise, each differs, and laid over the old schedule they are the new one
pub record LeadOver (blocks : ℕ) (changes : List Change) (old new : ℕ → Option ℕ) : Type 0 where
  pub rising : IsStrictlyIncreasing (map (λ (change : Change). change.block) changes)
  pub each : All (IsChange blocks old new) changes
  pub laid_over : (b : ℕ) → b < blocks → laid changes old b ≡ new b

-- how many blocks moves are of
abbrev pub all_moved : List Move → ℕ
all_moved moves = sum_by (λ (move : Move). move.number) moves

-- two lists of commits leave the same periods and the same limits in force
pub record LeaveTheSame (pit : Pit) (old new : List Commit) : Type 0 where
  pub periods : (b : ℕ) → b < pit.blocks → held_period old b ≡ held_period new b
  pub limits : (r t : ℕ) → r < pit.resources → t < pit.periods → limit_of pit old r t ≡ limit_of pit new r t
