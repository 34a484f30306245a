use Rattle.std.proofs.Common.{◌≡◌, ◌<◌, ◌≤◌, ℕ, length, drop, slice_index_or}
use Rattle.pit_board.specs.Inside.Boards.{slot_after}
use Rattle.pit_board.specs.declared.slot.Slot.{Slot}
use Rattle.pit_board.proofs.board.write_slots.Given as goal

abbrev pub invariant-loop-left : goal.invariant-loop-left
invariant-loop-left g l =
    (l.left ≤ length l.writes)
    × (length l.slots.items ≡ length l.initial.slots.items)
    × ((b : ℕ) (d : Slot) → b < length l.initial.slots.items
    → slice_index_or l.slots.items b d ≡ slot_after l.number (drop l.left l.writes) b (slice_index_or l.initial.slots.items b d))

abbrev pub decreases-loop-left : goal.decreases-loop-left
decreases-loop-left g l = l.left
