use Rattle.std.proofs.Common.{ℕ, ◌<◌, ◌≢◌, pos, get_or}
use Rattle.pit_plan.proofs.cell_list.place_of.Given as goal

abbrev pub invariant-loop-i : goal.invariant-loop-i
invariant-loop-i l = (j : ℕ) → j < l.i → (get_or l.few j (0, pos 0)).0 ≢ l.cell
