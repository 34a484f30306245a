-- Discount factors, in units of 10^-12.
use Rattle.std.specs.Prelude.{ℕ, zero, suc, ◌+◌, ◌*◌, ◌^◌}
use Rattle.pit_num.specs.Rounding.{nearest}

-- the factor of the first period is one; each next one is divided by one and the rate
unfoldable pub factor : ℕ → ℕ → ℕ
factor rate zero = 10 ^ 12
factor rate (suc t) = nearest (factor rate t * 10 ^ 6) (10 ^ 6 + rate)

-- a rate, and for how many periods there are factors
pub record Discounting : Type 0 where
  pub rate : ℕ
  pub periods : ℕ
