-- What filters tell of the numbers of a set.
use Rattle.std.specs.Prelude.{◌≡◌, ℕ, ◌/◌, ◌%◌, true, List, nat_eq, is_some}
use Rattle.std.specs.Int.{bit_at}
use Rattle.pit_keyed.specs.Keyed.{at_key}

-- for each number that is there, its bit is set
abbrev pub IsFilterOf : {V : Type 0} → (ℕ → ℕ) → List (ℕ × V) → ℕ → Type 0
IsFilterOf bit_of pairs filter = (k : ℕ) → is_some (at_key nat_eq pairs k) ≡ true → bit_at filter (bit_of k) ≡ 1

-- the bit of a number `n` is `n % 64` in the one filter, and `n / 64 % 64` in the other
pub record AreFiltersOf {V : Type 0} (pairs : List (ℕ × V)) (low high : ℕ) : Type 0 where
  pub by_remainder : IsFilterOf (λ k. k % 64) pairs low
  pub by_quotient : IsFilterOf (λ k. k / 64 % 64) pairs high
