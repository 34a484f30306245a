-- What one planner's turn comes to.
use Rattle.std.specs.Prelude.{◌≡◌, ℕ, List}
use Rattle.pit_model.specs.Pit.{Pit}
use Rattle.pit_desk.specs.History.{Answered}
use Rattle.pit_desk.specs.State.{State}
use Rattle.pit_script.specs.Jobs.{Job}
use Rattle.pit_share.specs.Planners.{PlannerState}
use Rattle.pit_share.specs.Logs.{HasEachLog}
use Rattle.pit_share.specs.Opening.{IsPlannerCount}
use Rattle.pit_share.specs.Closing.{IsClosed, IsCloseError}
use Rattle.pit_share.specs.declared.error.CloseError.{CloseError}
use Rattle.pit_run.specs.Reports.{RunState}
use Rattle.pit_run.specs.Turns.{TookTurn}
use Rattle.pit_run.specs.declared.report.InTurnError.{InTurnError}
use Rattle.pit_run.specs.declared.report.InTurnError.TheVariants as error

-- a workspace was closed by the log of one planner, who did its script, and empty ones
pub record IsTurn (pit : Pit) (opening : List Answered) (max_entries planners retries planner : ℕ) (script : List Job) (desk : State) (run : RunState) : Type 0 where
  pub logs : List PlannerState
  pub closed : IsClosed pit opening max_entries planners logs desk
  pub took : TookTurn pit max_entries retries opening script planner logs run

-- or was not, though each planner's is there
pub record IsUnclosedTurn (pit : Pit) (opening : List Answered) (max_entries planners retries planner : ℕ) (script : List Job) (cause : CloseError) : Type 0 where
  pub logs : List PlannerState
  pub run : RunState
  pub took : TookTurn pit max_entries retries opening script planner logs run
  pub whole : HasEachLog planners logs
  pub refused : IsCloseError pit opening max_entries planners logs cause

abbrev pub IsTurnError : Pit → List Answered → ℕ → ℕ → ℕ → ℕ → List Job → InTurnError → Type 0
IsTurnError pit opening max_entries planners retries planner script error.PlannerCount = IsPlannerCount planners → ⊥
IsTurnError pit opening max_entries planners retries planner script error.NoPlace = IsPlannerCount planners
IsTurnError pit opening max_entries planners retries planner script error.NoMemory = IsPlannerCount planners
IsTurnError pit opening max_entries planners retries planner script (error.NotClosed who cause) =
    (who ≡ planner) × IsUnclosedTurn pit opening max_entries planners retries planner script cause
