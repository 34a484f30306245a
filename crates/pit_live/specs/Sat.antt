-- What planners leave who sat down.
use Rattle.std.specs.Prelude.{◌≡◌, ◌⊎◌, ℕ, ◌+◌, List, [], ◌∷◌, length, Option, ⊤}
use Rattle.pit_model.specs.Pit.{Pit}
use Rattle.pit_desk.specs.History.{Answered}
use Rattle.pit_desk.specs.State.{State}
use Rattle.pit_share.specs.Planners.{PlannerState, planner_of}
use Rattle.pit_share.specs.Closing.{IsClosed}
use Rattle.pit_serve.specs.Sessions.{IsSession}
use Rattle.pit_serve.specs.declared.session_end.SessionEnd.{SessionEnd}
use Rattle.pit_serve.specs.declared.session_end.SessionEnd.TheVariants as ending
use Rattle.pit_live.specs.declared.sitting.Sitting.{Sitting}

-- it got no streams, no thread, or no memory for them
abbrev pub IsUnseated : SessionEnd → Type 0
IsUnseated ending.Input = ⊥
IsUnseated ending.Output = ⊥
IsUnseated other = ⊤

-- no request of it was looked at
pub record NotSat (planner log : PlannerState) (sitting : Sitting) : Type 0 where
  pub same : log ≡ planner
  pub none : sitting.replies ≡ 0
  pub unseated : IsUnseated sitting.ended

-- a session over the lines of some input, whose replies some output got
pub record HadSession (pit : Pit) (max_entries : ℕ) (planner log : PlannerState) (sitting : Sitting) : Type 0 where
  pub input : Option (List ℕ)
  pub before : Option (List ℕ)
  pub after : Option (List ℕ)
  pub session : IsSession pit max_entries planner input before after sitting.ended sitting.replies log

-- a planner who had seen the opening history sat down, and handed in this log
pub record PlannerSat (pit : Pit) (max_entries : ℕ) (opening : List Answered) (planner : ℕ) (log : PlannerState) (sitting : Sitting) : Type 0 where
  pub number : log.number ≡ planner
  pub of_sitting : sitting.planner ≡ planner
  pub entries : sitting.entries ≡ length log.items
  pub sat : HadSession pit max_entries (planner_of planner [] opening) log sitting ⊎ NotSat (planner_of planner [] opening) log sitting

-- each of the planners from this one on
abbrev pub AllSat : Pit → ℕ → List Answered → ℕ → List PlannerState → List Sitting → Type 0
AllSat pit max_entries opening planner [] [] = Unit {0}
AllSat pit max_entries opening planner [] (sitting ∷ sittings) = ⊥
AllSat pit max_entries opening planner (log ∷ logs) [] = ⊥
AllSat pit max_entries opening planner (log ∷ logs) (sitting ∷ sittings) =
    PlannerSat pit max_entries opening planner log sitting × AllSat pit max_entries opening (planner + 1) logs sittings

-- each planner sat down, and the workspace was closed by their logs
pub record IsLived (pit : Pit) (opening : List Answered) (max_entries planners : ℕ) (desk : State) (sittings : List Sitting) : Type 0 where
  pub logs : List PlannerState
  pub closed : IsClosed pit opening max_entries planners logs desk
  pub many : length sittings ≡ planners
  pub sat : AllSat pit max_entries opening 1 logs sittings
