-- Numbers that are counted.
use Rattle.std.proofs.Common.{◌≡◌, ℕ, zero, suc, ◌+◌, ◌≤◌, pos, Bool, true, false, cond, refl, subst, ◌+ℤ◌, arith, add-one}
use Rattle.std.specs.Prelude.{count_by}
use Rattle.std.specs.List.{range_with_len}
use Rattle.std.proofs.lemmas.Int.{ints}
use Rattle.std.proofs.lemmas.List.FromFn.{length-range_with_len}
use Rattle.std.proofs.lemmas.List.Sums.{count_by-le-length}
use Rattle.pit_plan.specs.Sums.{total}
use Rattle.pit_step.proofs.CallerLemmas.{count-more}

pub count-le : (test : ℕ → Bool) (n : ℕ) → count_by test (range_with_len 0 n) ≤ n
count-le test n = let few = count_by-le-length test (range_with_len 0 n) in let long = length-range_with_len 0 n in omega (arith, few, long)

-- a count is a sum
pub count-total : (test : ℕ → Bool) (n : ℕ) → pos (count_by test (range_with_len 0 n)) ≡ total (λ b. cond (test b) (pos 1) (pos 0)) n
unfolding total
count-total test zero = refl
count-total test (suc n) =
    let more : count_by test (range_with_len 0 (suc n)) ≡ count_by test (range_with_len 0 n) + cond (test n) 1 0 = subst (λ (k : ℕ). count_by test (range_with_len 0 k) ≡ count_by test (range_with_len 0 n) + cond (test n) 1 0) (add-one n) (count-more test n) in
    let rest = count-total test n in
    by (test n) more rest
  where
    by : (x : Bool) → count_by test (range_with_len 0 (suc n)) ≡ count_by test (range_with_len 0 n) + cond x 1 0 → pos (count_by test (range_with_len 0 n)) ≡ total (λ b. cond (test b) (pos 1) (pos 0)) n
        → pos (count_by test (range_with_len 0 (suc n))) ≡ total (λ b. cond (test b) (pos 1) (pos 0)) n +ℤ cond x (pos 1) (pos 0)
    by true more rest = omega (arith, ints, rest, more)
    by false more rest = omega (arith, ints, rest, more)
