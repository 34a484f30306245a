-- What a report comes to.
use Rattle.std.specs.Prelude.{◌≡◌, ℕ, ◌+◌, ◌≤◌, ℤ, false, List, ◌++◌, length, take, Option, slice_get, Some, All, ⊤}
use Rattle.pit_model.specs.Pit.{Pit}
use Rattle.pit_desk.specs.History.{Answered, commits_of}
use Rattle.pit_desk.specs.OneThread.{IsOfOneThread, held_period_after}
use Rattle.pit_desk.specs.declared.reply.EntryReply.TheVariants.{Committed}
use Rattle.pit_script.specs.Jobs.{Job}
use Rattle.pit_share.specs.Snapshots.{AreSnapshots}
use Rattle.pit_job.specs.JobByJob.{WroteEffect}
use Rattle.pit_job.specs.Outcomes.{is_moved_reply}
use Rattle.pit_job.specs.Runs.{reply_of, tries_of}
use Rattle.pit_job.specs.declared.outcome.Outcome.{Outcome}
use Rattle.pit_job.specs.declared.outcome.RunEnd.{RunEnd}
use Rattle.pit_job.specs.declared.outcome.RunEnd.TheVariants as end
use Rattle.pit_run.specs.Reports.{RunState}
use Rattle.pit_run.specs.Turns.{IsInTurn, HadTurns}

-- its planner is one of the run's, and it wrote what its own job of that planner's script does to the schedule
pub record DidOwnJob (pit : Pit) (scripts : List (List Job)) (schedule : ℕ → Option ℕ) (e : Answered) : Type 0 where
  pub place : ℕ
  pub script : List Job
  pub planner : e.call.planner ≡ 1 + place
  pub at : slice_get scripts place ≡ Some script
  pub wrote : WroteEffect pit script schedule e

-- each entry past so many that was committed wrote what its own job does to the schedule after the entries before it: the committed jobs were
-- done one after another
pub record IsOneByOne (pit : Pit) (opened : ℕ) (scripts : List (List Job)) (history : List Answered) : Type 0 where
  pub each : (i number : ℕ) (e : Answered) → slice_get history (opened + i) ≡ Some e → e.reply ≡ Committed number
      → DidOwnJob pit scripts (held_period_after history (opened + i)) e

-- ---- turns

-- behind all that stood before a turn, each of its entries began after just the commits before it; none was refused as moved, nor was a job, and each job
-- had one try
pub record IsOwnTurn (before own : List Answered) (jobs : List Outcome) : Type 0 where
  pub begun : (k : ℕ) (e : Answered) → slice_get own k ≡ Some e → e.call.start ≡ length (commits_of (before ++ take k own))
  pub unmoved : All (λ e. is_moved_reply e.reply ≡ false) own
  pub first : All (λ job. (is_moved_reply (reply_of job) ≡ false) × (tries_of job ≡ 1)) jobs

-- planners took turns on a history of one thread, whose value is the stated one, which has no more entries than it may, and of which each noted one
-- snapshot
pub record TookTurns (pit : Pit) (opening : List Answered) (max_entries retries : ℕ) (scripts : List (List Job)) (history : List Answered) (runs : List RunState) (stated : ℤ) : Type 0 where
  pub one_thread : IsOfOneThread pit history stated
  pub few : length history ≤ max_entries
  pub snapshots : AreSnapshots (length opening) history
  pub in_turn : IsInTurn (length scripts) opening history
  pub had_turns : HadTurns pit max_entries retries opening history scripts runs

-- it had what it asked for: no memory and no place at the board was wanting, and no thread
abbrev pub IsServed : RunEnd → Type 0
IsServed end.Whole = ⊤
IsServed (end.Full job) = ⊤
IsServed (end.NoMemory job) = ⊥
IsServed (end.NoEntry job) = ⊥
IsServed end.NoThread = ⊥
