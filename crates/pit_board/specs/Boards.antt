-- What the commits leave of a block.
use Rattle.std.specs.Prelude.{ℕ, List}
use Rattle.pit_plan.specs.Schedule.{Commit, held_period, last_number}
use Rattle.pit_board.specs.declared.slot.Slot.{Slot}

abbrev pub slot_of : List Commit → ℕ → Slot
slot_of commits b = record { period = held_period commits b; version = last_number commits b }
