-- What a run leaves.
use Rattle.std.specs.Prelude.{◌≡◌, ℕ, ◌+◌, ◌⊎◌, List, [], ◌∷◌, drop, length}
use Rattle.pit_model.specs.Pit.{Pit}
use Rattle.pit_desk.specs.History.{Answered}
use Rattle.pit_desk.specs.State.{State}
use Rattle.pit_share.specs.Planners.{PlannerState}
use Rattle.pit_share.specs.Logs.{entries_of}
use Rattle.pit_share.specs.declared.error.CloseError.{CloseError}
use Rattle.pit_share.specs.Closing.{IsClosed, IsCloseError}
use Rattle.pit_script.specs.Jobs.{Job}
use Rattle.pit_job.specs.Runs.{RanFrom}
use Rattle.pit_job.specs.declared.outcome.Outcome.{Outcome}
use Rattle.pit_job.specs.declared.outcome.RunEnd.{RunEnd}
use Rattle.pit_job.specs.declared.outcome.RunEnd.TheVariants as end
use Rattle.pit_run.specs.declared.report.RunError.{RunError}
use Rattle.pit_run.specs.declared.report.RunError.TheVariants as error

pub record RunState : Type 0 where
  pub planner : ℕ
  pub jobs : List Outcome
  pub ended : RunEnd

-- no thread could be started for it
pub record NotStarted (es : List Answered) (run : RunState) : Type 0 where
  pub ended : run.ended ≡ end.NoThread
  pub jobs : run.jobs ≡ []
  pub none : es ≡ []

-- a planner who had seen the old list did its script, with these entries, and has then seen no more than the new one
pub record RanScript (pit : Pit) (max_entries retries : ℕ) (old new : List Answered) (script : List Job) (planner : ℕ) (es : List Answered) (run : RunState) : Type 0 where
  pub number : run.planner ≡ planner
  pub ran : RanFrom pit max_entries retries old new 1 script es run.jobs run.ended ⊎ NotStarted es run

-- and handed in this log, which tells what it has then seen
pub record PlannerRan (pit : Pit) (max_entries retries : ℕ) (opening : List Answered) (script : List Job) (planner : ℕ) (log : PlannerState) (run : RunState) : Type 0 where
  pub number : log.number ≡ planner
  pub script_ran : RanScript pit max_entries retries opening log.seen script planner log.items run

-- each of the planners from this one on
abbrev pub AllRan : Pit → ℕ → ℕ → List Answered → ℕ → List (List Job) → List PlannerState → List RunState → Type 0
AllRan pit max_entries retries opening planner [] [] [] = Unit {0}
AllRan pit max_entries retries opening planner [] [] (run ∷ runs) = ⊥
AllRan pit max_entries retries opening planner [] (log ∷ logs) runs = ⊥
AllRan pit max_entries retries opening planner (script ∷ scripts) [] runs = ⊥
AllRan pit max_entries retries opening planner (script ∷ scripts) (log ∷ logs) [] = ⊥
AllRan pit max_entries retries opening planner (script ∷ scripts) (log ∷ logs) (run ∷ runs) = PlannerRan pit max_entries retries opening script planner log run × AllRan pit max_entries retries opening (planner + 1) scripts logs runs

-- each planner from this one on did its script, with its own of the entries past the opening ones, and has seen no more than the history
abbrev pub AllDid : Pit → ℕ → ℕ → List Answered → List Answered → ℕ → List (List Job) → List RunState → Type 0
AllDid pit max_entries retries opening history planner [] [] = Unit {0}
AllDid pit max_entries retries opening history planner [] (run ∷ runs) = ⊥
AllDid pit max_entries retries opening history planner (script ∷ scripts) [] = ⊥
AllDid pit max_entries retries opening history planner (script ∷ scripts) (run ∷ runs) =
    RanScript pit max_entries retries opening history script planner (entries_of planner (drop (length opening) history)) run
    × AllDid pit max_entries retries opening history (planner + 1) scripts runs

-- the workspace was closed by logs, so no entry past the opening ones is another's, and each planner did its script, with its own of those entries
pub record IsReport (pit : Pit) (opening : List Answered) (max_entries retries : ℕ) (scripts : List (List Job)) (desk : State) (runs : List RunState) : Type 0 where
  pub logs : List PlannerState
  pub closed : IsClosed pit opening max_entries (length scripts) logs desk
  pub did : AllDid pit max_entries retries opening desk.history 1 scripts runs

-- each planner did its script, and the workspace was not closed by their logs
pub record IsUnclosed (pit : Pit) (opening : List Answered) (max_entries retries : ℕ) (scripts : List (List Job)) (logs : List PlannerState) (cause : CloseError) : Type 0 where
  pub runs : List RunState
  pub ran : AllRan pit max_entries retries opening 1 scripts logs runs
  pub refused : IsCloseError pit opening max_entries (length scripts) logs cause

-- what is handed back where there is no report: the seats as they were, or the logs of planners who have ended
abbrev pub IsRunError : {S R A : Type 0} → Pit → List Answered → ℕ → ℕ → List (List Job) → List ℕ → RunError S R A → Type 0
IsRunError pit opening max_entries retries scripts seats (error.NoMemory workspace left) = left.items ≡ seats
IsRunError pit opening max_entries retries scripts seats (error.NotClosed workspace logs cause) = IsUnclosed pit opening max_entries retries scripts logs.items cause
