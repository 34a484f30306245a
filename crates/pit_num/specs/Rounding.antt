-- Rounding of fractions.
use Rattle.std.specs.Prelude.{ℕ, ◌+◌, ◌*◌, ◌/◌, ◌≤◌}

-- p / q to the nearest whole number, a half upwards
unfoldable pub nearest : ℕ → ℕ → ℕ
nearest p q = (2 * p + q) / (2 * q)

-- n has P, and nothing above it does
pub record IsGreatest (P : ℕ → Type 0) (n : ℕ) : Type 0 where
  pub holds : P n
  pub above : (k : ℕ) → P k → k ≤ n
