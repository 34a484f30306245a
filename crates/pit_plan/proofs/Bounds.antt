-- How large the terms of sums are.
use Rattle.std.proofs.Common.{ℕ, suc, ◌≤◌, ◌*◌, ℤ, pos, negsuc, neg_ℤ, ◌*ℤ◌, ◌≤ℤ◌, arith}
use Rattle.std.proofs.lemmas.Int.{ints}
use Rattle.std.proofs.lemmas.Nat.{mul-le}

-- from -m to m
pub record IsWithin (m : ℕ) (z : ℤ) : Type 0 where
  pub low : neg_ℤ (pos m) ≤ℤ z
  pub high : z ≤ℤ pos m

pub zero-within : (m : ℕ) → IsWithin m (pos 0)
zero-within m = record { low = omega (arith, ints); high = omega (arith, ints) }

pub product-within : (m k : ℕ) (p q : ℤ) → IsWithin m p → pos 0 ≤ℤ q → q ≤ℤ pos k → IsWithin (m * k) (p *ℤ q)
product-within m k (pos a) (pos n) h low high =
    let s : a ≤ m = omega (arith, ints, h.high) in
    let l : n ≤ k = omega (arith, ints, high) in
    let t : a * n ≤ m * k = mul-le a n m k s l in
    record { low = omega (arith, ints, t); high = omega (arith, ints, t) }
product-within m k (negsuc a) (pos n) h low high =
    let s : suc a ≤ m = omega (arith, ints, h.low) in
    let l : n ≤ k = omega (arith, ints, high) in
    let t : suc a * n ≤ m * k = mul-le (suc a) n m k s l in
    record { low = omega (arith, ints, t); high = omega (arith, ints, t) }
product-within m k p (negsuc n) h low high = absurd (omega (arith, ints, low))
