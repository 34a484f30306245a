use Rattle.std.proofs.Common.{ℕ, ◌<◌}
use Rattle.pit_model.specs.Pit.{IsUnmeetable}
use Rattle.pit_model.proofs.deposit.Deposit.unmeetable.Given as goal

abbrev pub invariant-loop-t : goal.invariant-loop-t
invariant-loop-t g l = (p : ℕ × ℕ) → p.0 < l.t → IsUnmeetable l.self p → ⊥
