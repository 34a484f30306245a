-- What stands where the planners' threads are to be started.
use Rattle.std.specs.Prelude.{◌≡◌, ℕ, ◌≤◌, List, [], length}
use Rattle.pit_script.specs.Jobs.{Job}
use Rattle.pit_share.specs.Planners.{PlannerState}
use Rattle.pit_share.specs.Opening.{AreSeats}
use Rattle.pit_run.specs.Reports.{RunState}

-- there is a seat for each script, and room for the log and the run of each, of which none is there yet
pub record IsReady (scripts : List (List Job)) (seats : List ℕ) (logs : List PlannerState) (runs : List RunState) (logs_room runs_room : ℕ) : Type 0 where
  pub numbered : AreSeats (length seats) seats
  pub each : length scripts ≡ length seats
  pub no_log : logs ≡ []
  pub no_run : runs ≡ []
  pub room_for_logs : length seats ≤ logs_room
  pub room_for_runs : length seats ≤ runs_room
