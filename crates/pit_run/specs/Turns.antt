-- What planners leave who do their scripts in turn.
use Rattle.std.specs.Prelude.{◌≡◌, ◌≢◌, ℕ, zero, suc, ◌+◌, List, [], ◌++◌, All, Contains, length, take, drop, slice_get, Some}
use Rattle.pit_model.specs.Pit.{Pit}
use Rattle.pit_desk.specs.History.{Answered}
use Rattle.pit_desk.specs.State.{State, IsDeskKept}
use Rattle.pit_script.specs.Jobs.{Job}
use Rattle.pit_share.specs.Planners.{PlannerState}
use Rattle.pit_share.specs.Logs.{entries_of, HasEachLog}
use Rattle.pit_share.specs.Opening.{IsPlannerCount}
use Rattle.pit_share.specs.GoingOn.{GoesOn}
use Rattle.pit_share.specs.Closing.{IsCloseError}
use Rattle.pit_share.specs.declared.error.CloseError.{CloseError}
use Rattle.pit_job.specs.Runs.{RanFrom}
use Rattle.pit_job.specs.declared.outcome.RunEnd.TheVariants as end
use Rattle.pit_run.specs.Reports.{RunState, AllDid}
use Rattle.pit_run.specs.declared.report.InTurnError.{InTurnError}
use Rattle.pit_run.specs.declared.report.InTurnError.TheVariants as error

-- the entries of the first so many planners: those of planner 1, then those of planner 2, and so on
abbrev pub entries_by_planner : ℕ → List Answered → List Answered
entries_by_planner zero es = []
entries_by_planner (suc before) es = entries_by_planner before es ++ entries_of (suc before) es

-- behind the opening history stand the entries of planner 1, then those of planner 2, and so on
pub record IsInTurn (planners : ℕ) (opening history : List Answered) : Type 0 where
  pub turns : history ≡ opening ++ entries_by_planner planners (drop (length opening) history)

-- what stood once the first so many planners had ended: the opening history, and then their entries
abbrev pub after_turns : ℕ → List Answered → List Answered → List Answered
after_turns planners opening history = opening ++ entries_by_planner planners (drop (length opening) history)

-- a planner did its script behind these entries, with its own, and has seen no more than both
pub record DidBehind (pit : Pit) (max_entries retries : ℕ) (before : List Answered) (script : List Job) (planner : ℕ) (own : List Answered) (run : RunState) : Type 0 where
  pub of_run : run.planner ≡ planner
  pub ran : RanFrom pit max_entries retries before (before ++ own) 1 script own run.jobs run.ended

-- each planner did its script, with its own of the entries past the opening ones, behind all that stood once the planner before it had ended
pub record HadTurns (pit : Pit) (max_entries retries : ℕ) (opening history : List Answered) (scripts : List (List Job)) (runs : List RunState) : Type 0 where
  pub many : length runs ≡ length scripts
  pub each : (place : ℕ) (script : List Job) → slice_get scripts place ≡ Some script → (run : RunState) × (slice_get runs place ≡ Some run)
      × DidBehind pit max_entries retries (after_turns place opening history) script (1 + place) (entries_of (1 + place) (drop (length opening) history)) run

-- no planner went without a thread
abbrev pub AllStarted : List RunState → Type 0
AllStarted runs = All (λ run. run.ended ≢ end.NoThread) runs

-- a planner did its script, and handed in this log
pub record DidScript (pit : Pit) (max_entries retries : ℕ) (opening : List Answered) (script : List Job) (planner : ℕ) (log : PlannerState) (run : RunState) : Type 0 where
  pub of_log : log.number ≡ planner
  pub of_run : run.planner ≡ planner
  pub ran : RanFrom pit max_entries retries opening log.seen 1 script log.items run.jobs run.ended

-- a planner did its script, and the logs are its own and empty ones
pub record TookTurn (pit : Pit) (max_entries retries : ℕ) (opening : List Answered) (script : List Job) (planner : ℕ) (logs : List PlannerState) (run : RunState) : Type 0 where
  pub log : PlannerState
  pub among : Contains logs log
  pub did : DidScript pit max_entries retries opening script planner log run
  pub others : All (λ other. other.number ≢ planner → other.items ≡ []) logs

-- the first of so many planners did these scripts in turn, which led from the opening history to this desk
pub record DidInTurn (pit : Pit) (opening : List Answered) (max_entries retries planners : ℕ) (scripts : List (List Job)) (desk : State) (runs : List RunState) : Type 0 where
  pub kept : IsDeskKept desk
  pub goes_on : GoesOn pit opening max_entries planners desk
  pub did : AllDid pit max_entries retries opening desk.history 1 scripts runs
  pub started : AllStarted runs
  pub in_turn : IsInTurn (length scripts) opening desk.history
  pub had_turns : HadTurns pit max_entries retries opening desk.history scripts runs

-- the planners before this one did their scripts in turn; then it did its own on what they left, and the workspace was not closed by the logs of all
pub record IsTurnUnclosed (pit : Pit) (opening : List Answered) (max_entries retries : ℕ) (scripts : List (List Job)) (planner : ℕ) (cause : CloseError) : Type 0 where
  pub place : ℕ
  pub script : List Job
  pub number : planner ≡ 1 + place
  pub at : slice_get scripts place ≡ Some script
  pub left : State
  pub before : List RunState
  pub did_before : DidInTurn pit opening max_entries retries (length scripts) (take place scripts) left before
  pub logs : List PlannerState
  pub run : RunState
  pub took : TookTurn pit max_entries retries left.history script planner logs run
  pub whole : HasEachLog (length scripts) logs
  pub refused : IsCloseError pit left.history max_entries (length scripts) logs cause

-- the number of planners is looked at first
abbrev pub IsInTurnError : Pit → List Answered → ℕ → ℕ → List (List Job) → InTurnError → Type 0
IsInTurnError pit opening max_entries retries scripts error.PlannerCount = IsPlannerCount (length scripts) → ⊥
IsInTurnError pit opening max_entries retries scripts error.NoPlace = IsPlannerCount (length scripts)
IsInTurnError pit opening max_entries retries scripts error.NoMemory = IsPlannerCount (length scripts)
IsInTurnError pit opening max_entries retries scripts (error.NotClosed planner cause) =
    IsPlannerCount (length scripts) × IsTurnUnclosed pit opening max_entries retries scripts planner cause
