-- What one more commit changes of a slot.
use Rattle.std.proofs.Common.{◌≡◌, ℕ, ◌+◌, ◌++◌, ◌∷◌, [], List, length}
use Rattle.pit_plan.specs.Schedule.{Commit}
use Rattle.pit_plan.proofs.CallerLemmas.{held_period-push, last_number-push}
use Rattle.pit_board.specs.Boards.{slot_of}
use Rattle.pit_board.specs.Inside.Boards.{slot_after}

pub slot_of-push : (b : ℕ) (commits : List Commit) (w : Commit) → slot_of (commits ++ w ∷ []) b ≡ slot_after (length commits + 1) w.writes b (slot_of commits b)
slot_of-push b commits w = λ i. record { period = held_period-push commits w b i; version = last_number-push commits w b i }
