-- What contracts see of planners and of their transactions.
use Rattle.std.specs.Prelude.{◌≡◌, ℕ, List, length}
use mathlib.Core.List.{IsPrefix}
use Rattle.pit_model.specs.Pit.{Pit}
use Rattle.pit_tx.specs.Sets.{Sets, empty_sets}
use Rattle.pit_desk.specs.History.{Answered, commits_of}
use Rattle.pit_desk.specs.Calls.{WorkFits}
use Rattle.pit_share.specs.Snapshots.{AreOfStart}

pub record PlannerState : Type 0 where
  -- counted from 1
  pub number : ℕ
  -- the entry of each ending that was answered, in order
  pub items : List Answered
  -- the entries of the history that it has seen
  pub seen : List Answered

abbrev pub planner_of : ℕ → List Answered → List Answered → PlannerState
planner_of number items seen = record { number = number; items = items; seen = seen }

-- a transaction: its planner, and what it reads, writes and revises
pub record TransactionState : Type 0 where
  pub planner : PlannerState
  pub work : Sets

-- the planner has seen what it had seen, and maybe more; nothing else of it changed
pub record SeesOn (old new : PlannerState) : Type 0 where
  pub number : new.number ≡ old.number
  pub items : new.items ≡ old.items
  pub seen : IsPrefix old.seen new.seen

-- a transaction begins after all commits that its planner has then seen
pub record Begins (pit : Pit) (old : PlannerState) (job : ℕ) (begun : TransactionState) : Type 0 where
  pub planner : SeesOn old begun.planner
  pub work : begun.work ≡ empty_sets pit old.number job (length (commits_of begun.planner.seen))

-- what is so of each transaction: its work fits the pit and is its planner's, and its reads are of one snapshot
pub record IsTransactionKept (pit : Pit) (transaction : TransactionState) : Type 0 where
  pub fits : WorkFits pit transaction.work
  pub planner : transaction.work.planner ≡ transaction.planner.number
  pub reads : AreOfStart (commits_of transaction.planner.seen) transaction.work.start transaction.work.reads
