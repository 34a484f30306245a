-- What stands where the planners' threads are to be started, and when they have ended.
use Rattle.std.specs.Prelude.{◌≡◌, ℕ, ◌≤◌, List, [], length}
use Rattle.pit_model.specs.Pit.{Pit}
use Rattle.pit_desk.specs.History.{Answered}
use Rattle.pit_share.specs.Planners.{PlannerState}
use Rattle.pit_share.specs.Opening.{AreSeats}
use Rattle.pit_live.specs.Sat.{AllSat}
use Rattle.pit_live.specs.declared.sitting.Sitting.{Sitting}

-- the seats that are free, what those left who sat down, and for how many of them there is room
pub record SeatingState : Type 0 where
  pub seats : List ℕ
  pub logs : List PlannerState
  pub sittings : List Sitting
  pub logs_room : ℕ
  pub sittings_room : ℕ

-- each seat is free, and there is room for the log and the sitting of each planner
pub record IsReady (seating : SeatingState) : Type 0 where
  pub numbered : AreSeats (length seating.seats) seating.seats
  pub no_log : seating.logs ≡ []
  pub no_sitting : seating.sittings ≡ []
  pub room_for_logs : length seating.seats ≤ seating.logs_room
  pub room_for_sittings : length seating.seats ≤ seating.sittings_room

-- so many planners sat down
pub record AreSat (pit : Pit) (max_entries : ℕ) (opening : List Answered) (planners : ℕ) (seating : SeatingState) : Type 0 where
  pub many : length seating.sittings ≡ planners
  pub sat : AllSat pit max_entries opening 1 seating.logs seating.sittings
