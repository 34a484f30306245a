-- Blocks that are looked at one after another, each with a period.
use Rattle.std.proofs.Common.{◌≡◌, ℕ, ◌<◌, Bool, true, false, cond, List, [], ◌∷◌, drop, slice_index_or, Some, None}
use Rattle.std.specs.Prelude.{nat_le}
use Rattle.std.specs.Option.{option_or}
use Rattle.pit_tx.specs.declared.error.WorkError.TheVariants.{NoBlock, NoPeriod, NoMemory}
use Rattle.pit_tx.specs.Refusals.{first_refusal_of}
use Rattle.pit_tx.specs.Sets.{Sets}

-- the first i are not refused
pub record IsLookedTo (sets : Sets) (blocks : List ℕ) (t i : ℕ) : Type 0 where
  pub due : first_refusal_of sets (drop i blocks) t ≡ first_refusal_of sets blocks t
  pub fit : (k d : ℕ) → k < i → (slice_index_or blocks k d < sets.blocks) × (t < sets.periods)

-- none of them is for want of memory
pub never-memory : (sets : Sets) (blocks : List ℕ) (t : ℕ) → first_refusal_of sets blocks t ≡ Some NoMemory → ⊥
never-memory sets [] t is = cc
never-memory sets (b ∷ blocks) t is = by (nat_le sets.blocks b) (nat_le sets.periods t) (never-memory sets blocks t) is
  where
    by : (x y : Bool) → (first_refusal_of sets blocks t ≡ Some NoMemory → ⊥)
        → option_or (cond x (Some NoBlock) (cond y (Some NoPeriod) None)) (first_refusal_of sets blocks t) ≡ Some NoMemory → ⊥
    by true y later e = cc
    by false true later e = cc
    by false false later e = later e
