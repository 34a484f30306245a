-- Lists that rise below a bound.
use Rattle.std.proofs.Common.{ℕ, zero, suc, ◌<◌, ◌≤◌, List, length, get_or, All, arith, inl, inr}
use Rattle.std.specs.List.Sorted.{IsStrictlyIncreasing}
use Rattle.std.proofs.lemmas.Bool.Decides.{leb_tells}
use Rattle.std.proofs.lemmas.List.Kept.{AllPairs-from_increasing}
use Rattle.pit_model.specs.Pit.{ArePreds}

rank-le : (xs : List ℕ) (k : ℕ) → ((i j : ℕ) → i < j → j < length xs → get_or xs i 0 < get_or xs j 0) → k < length xs → k ≤ get_or xs k 0
rank-le xs zero rises below = omega arith
rank-le xs (suc k) rises below =
    let before = rank-le xs k rises (omega (arith, below)) in
    let next = rises k (suc k) (omega arith) below in
    omega (arith, before, next)

-- there are no more of them than the bound
pub few-rising : (xs : List ℕ) (n : ℕ) → IsStrictlyIncreasing xs → All (λ x. x < n) xs → length xs ≤ n
few-rising xs n rising below =
    elim (leb_tells (length xs) n) [
      | inl is ↦ is.1
      | inr many ↦
          let rank = rank-le xs n (λ i j less within. AllPairs-from_increasing xs rising i j 0 less within) (omega (arith, many.1)) in
          let last = below n 0 (omega (arith, many.1)) in
          absurd (omega (arith, rank, last))
    ]

-- there are no more predecessors than blocks
pub few-preds : (blocks b : ℕ) (preds : List ℕ) → ArePreds blocks b preds → length preds ≤ blocks
few-preds blocks b preds are = few-rising preds blocks are.rising are.in_range
