-- The table of factors that a discount keeps.
use Rattle.std.specs.Prelude.{◌≡◌, ℕ, ℤ, pos, ◌<◌, List, length, slice_index_or}
use Rattle.pit_num.specs.Factor.{factor}

-- each number is the factor of its period
abbrev pub AreFactors : ℕ → List ℤ → Type 0
AreFactors rate factors = (t : ℕ) → t < length factors → slice_index_or factors t (pos 0) ≡ pos (factor rate t)
