-- What a read of a block answers that the transaction doesn't know.
use Rattle.std.specs.Prelude.{◌≡◌, ℕ, ◌<◌, ◌≤◌, [], ◌∷◌, ◌++◌, take, Option, Result, Ok, Err}
use Rattle.pit_plan.specs.Schedule.{held_period, last_number}
use Rattle.pit_desk.specs.History.{commits_of}
use Rattle.pit_share.specs.Planners.{TransactionState}
use Rattle.pit_share.specs.declared.error.ReadStop.{ReadStop}
use Rattle.pit_share.specs.declared.error.ReadStop.TheVariants as stop

-- the block is answered, and noted, with what it held at the start: of what the planner has then seen, no commit past the start names it
pub record IsNoted (old : TransactionState) (block : ℕ) (period : Option ℕ) (new : TransactionState) : Type 0 where
  pub unmoved : last_number (commits_of new.planner.seen) block ≤ old.work.start
  pub period_is : period ≡ held_period (take old.work.start (commits_of new.planner.seen)) block
  pub work : new.work ≡ record old.work { reads = old.work.reads ++ (block, period) ∷ [] }

-- a block in range is noted; or nothing changed; or, of what the planner has then seen, its last commit is past the start; or memory ran out
abbrev pub IsLookedUp : TransactionState → ℕ → Result (Option ℕ) ReadStop → TransactionState → Type 0
IsLookedUp old b (Ok period) new = IsNoted old b period new
IsLookedUp old b (Err stop.NoBlock) new = ⊥
IsLookedUp old b (Err stop.NoEntry) new = new ≡ old
IsLookedUp old b (Err (stop.Moved block version)) new =
    (block ≡ b) × (version ≡ last_number (commits_of new.planner.seen) b) × (old.work.start < version) × (new.work ≡ old.work)
IsLookedUp old b (Err stop.NoMemory) new = (last_number (commits_of new.planner.seen) b ≤ old.work.start) × (new.work ≡ old.work)
