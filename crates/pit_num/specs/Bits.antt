-- Sets of small numbers, as the bits of a word.
use Rattle.std.specs.Prelude.{◌≡◌, ◌≢◌, ℕ}
use Rattle.std.specs.Int.{bit_at}

-- one bit more
pub record IsWithBit (bits r more : ℕ) : Type 0 where
  pub here : bit_at more r ≡ 1
  pub others : (i : ℕ) → i ≢ r → bit_at more i ≡ bit_at bits i
