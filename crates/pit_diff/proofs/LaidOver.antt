-- The changes of blocks, laid over the old schedule, are the new one.
use Rattle.std.proofs.Common.{◌≡◌, ℕ, zero, suc, ◌+◌, ◌<◌, ◌≤◌, Bool, not, List, ◌∷◌, map, Option, Some, None, refl, sym, ap, subst, ◌∙◌, arith, inl, inr}
use Rattle.std.specs.Prelude.{flat_map, nat_eq, unwrap_or}
use Rattle.std.specs.Map.{lookup}
use Rattle.std.specs.List.{filter, range_with_len, AllByRecursion}
use Rattle.std.specs.List.Sorted.{IsStrictlyIncreasing}
use Rattle.std.proofs.lemmas.Bool.{cond-true, cond-false}
use Rattle.std.proofs.lemmas.Bool.Decides.{eqb_tells}
use Rattle.std.proofs.lemmas.List.Elements.{All-from_recursion}
use Rattle.std.proofs.lemmas.List.Kept.{IsStrictlyIncreasing-filter}
use Rattle.std.proofs.lemmas.List.FromFn.{length-range_with_len, get_or-range_with_len}
use Rattle.pit_diff.specs.Changes.{Change, is_same, change_at, changes_of}
use Rattle.pit_diff.specs.Laid.{laid, IsChange, LeadOver}
use Rattle.pit_diff.proofs.Same.{period-decides, tells}

rising-range : (n : ℕ) → IsStrictlyIncreasing (range_with_len 0 n)
rising-range n = λ k within.
    let long = length-range_with_len 0 n in
    omega (arith, get_or-range_with_len 0 n k 0 (omega (arith, within, long)), get_or-range_with_len 0 n (k + 1) 0 (omega (arith, within, long)))

module _ (old new : ℕ → Option ℕ) where
  -- of n blocks, from a on
  abbrev rows : ℕ → ℕ → List Change
  rows a n = flat_map (change_at old new) (range_with_len a n)

  abbrev pair : Change → ℕ × Option ℕ
  pair change = (change.block, change.new)

  abbrev differs : ℕ → Bool
  differs b = not (is_same (old b) (new b))

  -- ---- the blocks rise

  blocks-of : (a n : ℕ) → map (λ (change : Change). change.block) (rows a n) ≡ filter differs (range_with_len a n)
  blocks-of a zero = refl
  blocks-of a (suc n) =
      let more = blocks-of (a + 1) n in
      elim (tells (is_same (old a) (new a)) (period-decides (old a) (new a))) [
        | inl same ↦ rw (same.0) more
        | inr other ↦ rw (other.0) (ap (λ (bs : List ℕ). a ∷ bs) more)
      ]

  rising : (n : ℕ) → IsStrictlyIncreasing (map (λ (change : Change). change.block) (rows 0 n))
  rising n = subst IsStrictlyIncreasing (sym (blocks-of 0 n)) (IsStrictlyIncreasing-filter differs (range_with_len 0 n) (rising-range n))

  -- ---- each differs

  each-of : (blocks a n : ℕ) → a + n ≤ blocks → AllByRecursion (IsChange blocks old new) (rows a n)
  each-of blocks a zero few = tt
  each-of blocks a (suc n) few =
      let more = each-of blocks (a + 1) n (omega (arith, few)) in
      elim (tells (is_same (old a) (new a)) (period-decides (old a) (new a))) [
        | inl same ↦ rw (same.0) more
        | inr other ↦ rw (other.0) ((record { known = omega (arith, few); before = refl; after = refl; differ = other.1 }, more))
      ]

  -- ---- laid over the old schedule

  none-before : (b a n : ℕ) → b < a → lookup (nat_eq b) (map pair (rows a n)) ≡ None
  none-before b a zero below = refl
  none-before b a (suc n) below =
      let more = none-before b (a + 1) n (omega (arith, below)) in
      elim (tells (is_same (old a) (new a)) (period-decides (old a) (new a))) [
        | inl same ↦ rw (same.0) more
        | inr other ↦
            elim (eqb_tells b a) [
              | inl here ↦ absurd (omega (arith, below, here.1))
              | inr there ↦ rw (other.0) (cond-false (nat_eq b a) (Some (new a)) (lookup (nat_eq b) (map pair (rows (a + 1) n))) there.0 ∙ more)
            ]
      ]

  laid-of : (b a n : ℕ) → a ≤ b → b < a + n → laid (rows a n) old b ≡ new b
  laid-of b a zero low high = absurd (omega (arith, low, high))
  laid-of b a (suc n) low high =
      elim (eqb_tells b a) [
        | inl here ↦
            elim (tells (is_same (old a) (new a)) (period-decides (old a) (new a))) [
              | inl same ↦
                  rw (same.0)
                  (ap (λ (said : Option (Option ℕ)). unwrap_or said (old b)) (none-before b (a + 1) n (omega (arith, here.1)))
                  ∙ (ap old here.1 ∙ (same.1 ∙ ap new (sym here.1))))
              | inr other ↦
                  rw (other.0)
                  (ap (λ (said : Option (Option ℕ)). unwrap_or said (old b)) (cond-true (nat_eq b a) (Some (new a)) (lookup (nat_eq b) (map pair (rows (a + 1) n))) here.0)
                  ∙ ap new (sym here.1))
            ]
        | inr there ↦
            let more = laid-of b (a + 1) n (omega (arith, low, there.1)) (omega (arith, high)) in
            elim (tells (is_same (old a) (new a)) (period-decides (old a) (new a))) [
              | inl same ↦ rw (same.0) more
              | inr other ↦
                  rw (other.0)
                  (ap (λ (said : Option (Option ℕ)). unwrap_or said (old b)) (cond-false (nat_eq b a) (Some (new a)) (lookup (nat_eq b) (map pair (rows (a + 1) n))) there.0)
                  ∙ more)
            ]
      ]

pub changes-lead : (blocks : ℕ) (old new : ℕ → Option ℕ) → LeadOver blocks (changes_of blocks old new) old new
unfolding changes_of
changes-lead blocks old new = record {
  rising = rising old new blocks;
  each = All-from_recursion (IsChange blocks old new) (rows old new 0 blocks) (each-of old new blocks 0 blocks (omega arith));
  laid_over = λ b below. laid-of old new b 0 blocks (omega arith) (omega (arith, below));
}
