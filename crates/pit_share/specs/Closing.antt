-- What a workspace is closed to, and when it isn't.
use Rattle.std.specs.Prelude.{◌≡◌, ℕ, ◌+◌, ◌<◌, ◌⊎◌, List, All, length, drop}
use mathlib.Core.List.{IsPrefix}
use Rattle.pit_num.specs.Least.{IsLeastOf}
use Rattle.pit_model.specs.Pit.{Pit}
use Rattle.pit_desk.specs.History.{Answered}
use Rattle.pit_desk.specs.State.{State, IsDeskKept}
use Rattle.pit_share.specs.Planners.{PlannerState}
use Rattle.pit_share.specs.Logs.{entries_in, HasEachLog, IsMissing, AreLogged, IsDiffering, IsFirstSeeingMore}
use Rattle.pit_share.specs.GoingOn.{GoesOn}
use Rattle.pit_share.specs.declared.error.CloseError.{CloseError}
use Rattle.pit_share.specs.declared.error.CloseError.TheVariants as error

-- the desk keeps what each does, so its history is legal; it goes on from the opening one, by as many entries as the logs have, and of each planner by
-- those of its log; and it begins with what each planner has seen
pub record IsClosed (pit : Pit) (opening : List Answered) (max_entries planners : ℕ) (logs : List PlannerState) (desk : State) : Type 0 where
  pub kept : IsDeskKept desk
  pub goes_on : GoesOn pit opening max_entries planners desk
  pub count : length desk.history ≡ length opening + entries_in logs
  pub whole : HasEachLog planners logs
  pub logged : AreLogged planners (drop (length opening) desk.history) logs
  pub seen : All (λ log. IsPrefix log.seen desk.history) logs

-- no log is missing, and the planner is the least whose entries in such a history, past the opening one, aren't its log
pub record IsFirstDiffering (pit : Pit) (opening : List Answered) (max_entries planners : ℕ) (logs : List PlannerState) (planner : ℕ) : Type 0 where
  pub whole : HasEachLog planners logs
  pub desk : State
  pub kept : IsDeskKept desk
  pub goes_on : GoesOn pit opening max_entries planners desk
  pub least : IsLeastOf ◌<◌ (IsDiffering planners (drop (length opening) desk.history) logs) planner

-- no log is missing, each planner's entries in such a history, past the opening one, are its log, and the planner is that of the first log that has
-- seen more than that history has
pub record IsFirstAhead (pit : Pit) (opening : List Answered) (max_entries planners : ℕ) (logs : List PlannerState) (planner : ℕ) : Type 0 where
  pub whole : HasEachLog planners logs
  pub desk : State
  pub kept : IsDeskKept desk
  pub goes_on : GoesOn pit opening max_entries planners desk
  pub logged : AreLogged planners (drop (length opening) desk.history) logs
  pub first : IsFirstSeeingMore desk.history logs planner

-- the first refusal that applies to logs beside some such history
abbrev pub IsCloseError : Pit → List Answered → ℕ → ℕ → List PlannerState → CloseError → Type 0
IsCloseError pit opening max_entries planners logs (error.Missing planner) = IsLeastOf ◌<◌ (IsMissing planners logs) planner
IsCloseError pit opening max_entries planners logs (error.Differs planner) =
    IsFirstDiffering pit opening max_entries planners logs planner ⊎ IsFirstAhead pit opening max_entries planners logs planner
