-- How a board keeps the period of a block in one number.
use Rattle.std.specs.Prelude.{◌≡◌, ℕ, zero, suc, Option, Some, None, refl}

-- the period before this number, or none at 0
abbrev pub period_until : ℕ → Option ℕ
period_until zero = None
period_until (suc t) = Some t

-- the number after this period, or 0 for none
abbrev pub until_of : Option ℕ → ℕ
until_of None = zero
until_of (Some t) = suc t

-- the second undoes the first
pub until_of-period_until : (n : ℕ) → until_of (period_until n) ≡ n
until_of-period_until zero = refl
until_of-period_until (suc t) = refl
