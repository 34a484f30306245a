-- How large sums are.
use Rattle.std.proofs.Common.{ℕ, zero, suc, ◌*◌, ◌^◌, ◌≤◌, ℤ, pos, negsuc, neg_ℤ, ◌*ℤ◌, ◌≤ℤ◌, Bool, true, false, cond, Option, Some, None, arith, FitsSigned}
use Rattle.std.specs.Int.{w64}
use Rattle.std.specs.Prelude.{nat_lt}
use Rattle.std.proofs.lemmas.Int.{ints}
use Rattle.std.proofs.lemmas.Nat.{mul-le}
use Rattle.pit_num.proofs.CallerLemmas.{factor_le}
use Rattle.pit_model.specs.Pit.{Pit, IsSound, profit_of, factor_of}
use Rattle.pit_plan.specs.Sums.{total}
use Rattle.pit_plan.specs.Schedule.{earned_in}
use Rattle.pit_table.proofs.Totals.{at_period}

-- from -m to m
pub record IsWithin (m : ℕ) (z : ℤ) : Type 0 where
  pub low : neg_ℤ (pos m) ≤ℤ z
  pub high : z ≤ℤ pos m

pub zero-within : (m : ℕ) → IsWithin m (pos 0)
zero-within m = record { low = omega (arith, ints); high = omega (arith, ints) }

product-within : (m k : ℕ) (p q : ℤ) → IsWithin m p → pos 0 ≤ℤ q → q ≤ℤ pos k → IsWithin (m * k) (p *ℤ q)
product-within m k (pos a) (pos n) h low high =
    let s : a ≤ m = omega (arith, ints, h.high) in
    let l : n ≤ k = omega (arith, ints, high) in
    let t : a * n ≤ m * k = mul-le a n m k s l in
    record { low = omega (arith, ints, t); high = omega (arith, ints, t) }
product-within m k (negsuc a) (pos n) h low high =
    let s : suc a ≤ m = omega (arith, ints, h.low) in
    let l : n ≤ k = omega (arith, ints, high) in
    let t : suc a * n ≤ m * k = mul-le (suc a) n m k s l in
    record { low = omega (arith, ints, t); high = omega (arith, ints, t) }
product-within m k p (negsuc n) h low high = absurd (omega (arith, ints, low))

pub within-64 : (z : ℤ) → FitsSigned w64 z → IsWithin (2 ^ 63) z
within-64 z fits = record { low = omega (arith, ints, fits); high = omega (arith, ints, fits) }

-- ---- what is earned

earned-within : (pit : Pit) (b : ℕ) (p : Option ℕ) → IsSound pit → IsWithin (2 ^ 63 * 10 ^ 12) (earned_in pit b p)
earned-within pit b None sound = zero-within (2 ^ 63 * 10 ^ 12)
earned-within pit b (Some t) sound =
    product-within (2 ^ 63) (10 ^ 12) (profit_of pit b) (factor_of pit t) (within-64 (profit_of pit b) (sound.profits b)) (omega (arith, ints)) (omega (arith, ints, factor_le pit.rate t))

pub cond-within : (m : ℕ) (test : Bool) (z : ℤ) → IsWithin m z → IsWithin m (cond test z (pos 0))
cond-within m true z within = within
cond-within m false z within = zero-within m

pub period-bounded : (pit : Pit) (b : ℕ) (p q : Option ℕ) (k : ℕ) → IsSound pit → IsWithin (2 ^ 63 * 10 ^ 12) (at_period q (earned_in pit b p) k)
period-bounded pit b p None k sound = zero-within (2 ^ 63 * 10 ^ 12)
period-bounded pit b p (Some t) k sound = cond-within (2 ^ 63 * 10 ^ 12) (nat_lt t k) (earned_in pit b p) (earned-within pit b p sound)

pub addend-bounded : (pit : Pit) (b : ℕ) (p : Option ℕ) (test : Bool) → IsSound pit → IsWithin (2 ^ 63 * 10 ^ 12) (cond test (earned_in pit b p) (pos 0))
addend-bounded pit b p test sound = cond-within (2 ^ 63 * 10 ^ 12) test (earned_in pit b p) (earned-within pit b p sound)

pub total-within : (f : ℕ → ℤ) (m n : ℕ) → ((b : ℕ) → IsWithin m (f b)) → IsWithin (n * m) (total f n)
unfolding total
total-within f m zero each = record { low = omega (arith, ints); high = omega (arith, ints) }
total-within f m (suc n) each =
    let before = total-within f m n each in
    let last = each n in
    record { low = omega (arith, ints, before.low, last.low); high = omega (arith, ints, before.high, last.high) }
