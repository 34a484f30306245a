-- Rounding of fractions.
use Rattle.std.proofs.Common.{◌≡◌, ℕ, ◌+◌, ◌-◌, ◌*◌, ◌/◌, ◌^◌, ◌<◌, ◌≤◌, ap, sym, ◌∙◌, arith, lit<}
use Rattle.std.proofs.Math.Nat.{mul-div-mul_right, mul_assoc, one-le-pow, div-lt_iff_lt-mul}
use Rattle.std.proofs.lemmas.Nat.{pow-add, div-mul-add, le-div}
use Rattle.pit_num.specs.Rounding.{nearest, IsGreatest}

pub ten_pos : (k : ℕ) → 0 < 10 ^ k
ten_pos k = let ten : 0 < 10 = lit< tt in omega (arith, one-le-pow k 10 ten)

-- a whole number is its own nearest
pub nearest_whole : (n q : ℕ) → 0 < q → nearest (n * q) q ≡ n
unfolding nearest
nearest_whole n q positive =
    let turned : 2 * (n * q) ≡ n * (2 * q) = omega arith in
    ap (λ (m : ℕ). (m + q) / (2 * q)) turned ∙ div-mul-add n (2 * q) q (omega arith)

-- a factor of both parts changes nothing
pub nearest_scaled : (p q x : ℕ) → 0 < x → nearest (p * x) (q * x) ≡ nearest p q
unfolding nearest
nearest_scaled p q x positive =
    let above : 2 * (p * x) + q * x ≡ (2 * p + q) * x = omega arith in
    let below : 2 * (q * x) ≡ (2 * q) * x = omega arith in
    ap (λ (m : ℕ). m / (2 * (q * x))) above ∙ ap (λ (m : ℕ). ((2 * p + q) * x) / m) below ∙ mul-div-mul_right (2 * p + q) (2 * q) positive

-- less than a half is rounded to nothing
pub nearest_small : (p q : ℕ) → 2 * p < q → nearest p q ≡ 0
unfolding nearest
nearest_small p q small =
    let whole : 2 * p + q ≡ 0 * (2 * q) + (2 * p + q) = omega arith in
    ap (λ (m : ℕ). m / (2 * q)) whole ∙ div-mul-add 0 (2 * q) (2 * p + q) (omega arith)

-- the millions go into the power
pub with_millions : (n raises : ℕ) → n * 10 ^ raises * 10 ^ 6 ≡ n * 10 ^ (raises + 6)
with_millions n raises = mul_assoc n (10 ^ raises) (10 ^ 6) ∙ ap (λ (m : ℕ). n * m) (sym (pow-add 10 raises 6))

-- ten to raises, millionths, over ten to lowers: where the number grows
pub scaled_up : (n raises lowers : ℕ) → lowers ≤ raises + 6 → nearest (n * 10 ^ raises * 10 ^ 6) (10 ^ lowers) ≡ n * 10 ^ (raises + 6 - lowers)
scaled_up n raises lowers h =
    let parts : raises + 6 ≡ raises + 6 - lowers + lowers = omega arith in
    let split : n * 10 ^ raises * 10 ^ 6 ≡ n * 10 ^ (raises + 6 - lowers) * 10 ^ lowers =
    with_millions n raises ∙ ap (λ (k : ℕ). n * 10 ^ k) parts ∙ ap (λ (m : ℕ). n * m) (pow-add 10 (raises + 6 - lowers) lowers) ∙ sym (mul_assoc n (10 ^ (raises + 6 - lowers)) (10 ^ lowers)) in
    ap (λ (m : ℕ). nearest m (10 ^ lowers)) split ∙ nearest_whole (n * 10 ^ (raises + 6 - lowers)) (10 ^ lowers) (ten_pos lowers)

-- and where it shrinks
pub scaled_down : (n raises lowers : ℕ) → raises + 6 ≤ lowers → nearest (n * 10 ^ raises * 10 ^ 6) (10 ^ lowers) ≡ nearest n (10 ^ (lowers - (raises + 6)))
scaled_down n raises lowers h =
    let parts : lowers ≡ lowers - (raises + 6) + (raises + 6) = omega arith in
    let split : 10 ^ lowers ≡ 10 ^ (lowers - (raises + 6)) * 10 ^ (raises + 6) = ap (λ (k : ℕ). 10 ^ k) parts ∙ pow-add 10 (lowers - (raises + 6)) (raises + 6) in
    ap (λ (m : ℕ). nearest m (10 ^ lowers)) (with_millions n raises) ∙ ap (λ (m : ℕ). nearest (n * 10 ^ (raises + 6)) m) split ∙ nearest_scaled n (10 ^ (lowers - (raises + 6))) (10 ^ (raises + 6)) (ten_pos (raises + 6))

-- the nearest is the greatest number whose double is not above
pub nearest_holds : (p q : ℕ) → 0 < q → 2 * nearest p q * q ≤ 2 * p + q
unfolding nearest
nearest_holds p q positive = omega arith

pub nearest_above : (p q k : ℕ) → 0 < q → 2 * k * q ≤ 2 * p + q → k ≤ nearest p q
unfolding nearest
nearest_above p q k positive h = le-div k (2 * p + q) (2 * q) (omega arith) (omega arith)

pub nearest_greatest : (p q : ℕ) → 0 < q → IsGreatest (λ n. 2 * n * q ≤ 2 * p + q) (nearest p q)
nearest_greatest p q positive = record { holds = nearest_holds p q positive; above = λ k h. nearest_above p q k positive h }

-- and no other number is
pub greatest_alone : (p q n : ℕ) → 0 < q → IsGreatest (λ k. 2 * k * q ≤ 2 * p + q) n → n ≡ nearest p q
greatest_alone p q n positive greatest = omega (arith, nearest_above p q n positive greatest.holds, greatest.above (nearest p q) (nearest_holds p q positive))

-- no nearest to a fraction of at most m is above m
pub nearest_le : (p q m : ℕ) → 0 < q → p ≤ m * q → nearest p q ≤ m
unfolding nearest
nearest_le p q m positive h =
    let below : (2 * p + q) / (2 * q) < m + 1 = (div-lt_iff_lt-mul {k = 2 * q} {x = 2 * p + q} {y = m + 1} (omega arith)).1 (omega arith) in
    omega (arith, below)
