-- What the answer of `live` says.
use Rattle.std.specs.Prelude.{◌≡◌, ℕ, ◌+◌, false, List, ◌++◌, length, drop, slice_get, Some}
use Rattle.std.specs.Io.KnownBytes.{Appends}
use mathlib.Core.List.{IsPrefix}
use Rattle.pit_model.specs.Pit.{Pit}
use Rattle.pit_plan.specs.Schedule.{held_period, value_of}
use Rattle.pit_desk.specs.History.{Answered, commits_of}
use Rattle.pit_desk.specs.OneThread.{IsOfOneThread}
use Rattle.pit_desk.specs.declared.entry.TheConstants.{ENTRIES_MAX}
use Rattle.pit_share.specs.GoingOn.{GoesOn}
use Rattle.pit_share.specs.Logs.{entries_of}
use Rattle.pit_share.specs.Planners.{PlannerState}
use Rattle.pit_step.specs.Devices.{Writing}
use Rattle.pit_opening.specs.Openings.{entries_before, IsGoodOpening}
use Rattle.pit_live.specs.LiveStarts.{LiveStart}
use Rattle.pit_live.specs.Sat.{PlannerSat}
use Rattle.pit_live.specs.Live.{Filing, Lived, IsFiled, carried_of, report_of}
use Rattle.pit_live.specs.declared.sitting.Sitting.{Sitting}

-- a planner's session, whose entries are its own of those past the opening history, and which has seen no more than the history
pub record SatBehind (pit : Pit) (opening history : List Answered) (planner : ℕ) (sitting : Sitting) : Type 0 where
  pub log : PlannerState
  pub sat : PlannerSat pit ENTRIES_MAX opening planner log sitting
  pub own : log.items ≡ entries_of planner (drop (length opening) history)
  pub seen : IsPrefix log.seen history

-- What was told is that of one closed history of one thread, whose text in format 2 is in the file, and synced. It goes on from what was carried on, and
-- each entry behind that is of one of the planners. Each planner's entries are those of its session, in order.
pub record IsOfOneLive (start : LiveStart) (planners : ℕ) (file : Filing) (lines : Writing) : Type 0 where
  pub lived : Lived
  pub good_opening : IsGoodOpening start.pit start.opening
  pub goes_on : GoesOn start.pit (entries_before start.opening) ENTRIES_MAX planners lived.desk
  pub one_thread : IsOfOneThread start.pit lived.desk.history (value_of start.pit (held_period (commits_of lived.desk.history)))
  pub many : length lived.sittings ≡ planners
  pub each : (place : ℕ) (sitting : Sitting) → slice_get lived.sittings place ≡ Some sitting
      → SatBehind start.pit (entries_before start.opening) lived.desk.history (1 + place) sitting
  pub filed : IsFiled lived.desk.history file.after
  pub told : Appends lines.before lines.after ((carried_of start planners).notices ++ report_of (carried_of start planners) lived)
  pub sound : lines.failed ≡ false
