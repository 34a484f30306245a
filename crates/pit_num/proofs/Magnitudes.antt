-- Magnitudes below the limit.
use Rattle.std.proofs.Common.{◌≡◌, ℕ, ◌*◌, ◌^◌, ◌<◌, ◌≤◌, Some, None, ap, sym, ◌∙◌, arith, lit<, cond, ltb, Bool, true, false, ℤ, to_z, of_z, w64}
use Rattle.std.proofs.lemmas.Int.{ints}
use Rattle.std.proofs.lemmas.Bool.Decides.{nat_tests}
use Rattle.std.proofs.Math.Nat.{pow-le-pow_right, mul-le-mul_left}
use Rattle.pit_num.specs.Decimal.{with_sign}
use Rattle.pit_num.specs.Inside.Decimal.{below_limit}
use Rattle.pit_num.specs.declared.limits.TheConstants.{MICRO_LIMIT}

pub is_below : (m n : ℕ) → m ≡ n → m < MICRO_LIMIT → Some m ≡ below_limit n
is_below m n same small =
    let limit : cond (ltb n MICRO_LIMIT) (Some n) None ≡ Some n = grind (arith, nat_tests) in
    ap (λ (k : ℕ). Some k) same ∙ sym limit

pub is_above : (m n : ℕ) → m ≡ n → MICRO_LIMIT ≤ m → None ≡ below_limit n
is_above m n same large = grind (arith, nat_tests)

-- more zeros, and no smaller number
pub more_zeros : (n j k : ℕ) → j ≤ k → n * 10 ^ j ≤ n * 10 ^ k
more_zeros n j k h = let positive : 0 < 10 = lit< tt in mul-le-mul_left n (pow-le-pow_right {n = 10} positive h)

-- what a magnitude below the limit is
pub limit_value : (m n : ℕ) → below_limit n ≡ Some m → (m ≡ n) × (n < MICRO_LIMIT)
limit_value m n h = grind (arith, nat_tests)

-- a number below the limit, with its sign, fits an i64
pub sign_kept : (z : ℤ) (negative : Bool) (n : ℕ) → z ≡ with_sign negative n → n < MICRO_LIMIT → to_z w64 (of_z w64 z) ≡ with_sign negative n
sign_kept z true n is below = omega (arith, ints)
sign_kept z false n is below = omega (arith, ints)
