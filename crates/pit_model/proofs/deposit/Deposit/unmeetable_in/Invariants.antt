use Rattle.std.proofs.Common.{◌≡◌, ℕ, ◌<◌, false}
use Rattle.pit_model.specs.Pit.{is_below_zero, upper_of}
use Rattle.pit_model.proofs.deposit.Deposit.unmeetable_in.Given as goal

abbrev pub invariant-loop-r : goal.invariant-loop-r
invariant-loop-r g l = (resource : ℕ) → resource < l.r → is_below_zero (upper_of l.self resource l.t) ≡ false
