-- Lists of digits and their values.
use Rattle.std.proofs.Common.{◌≡◌, ℕ, zero, suc, ◌+◌, ◌-◌, ◌*◌, ◌^◌, ◌<◌, ◌≤◌, true, List, [], ◌∷◌, ◌++◌, length, take, get_or, ap, ◌∙◌, refl, arith, length-take, lit<}
use Rattle.std.specs.Char.{is_ascii_digit, digit_value}
use Rattle.std.specs.Int.{IsInRange}
use Rattle.std.specs.Str.Parse.{digits_value, digits_value_after, AllDigits}
use Rattle.std.proofs.lemmas.Int.Digits.{digits_value-lt, digits_value_more}
use Rattle.std.proofs.lemmas.Str.Parse.{digit_at}
use Rattle.std.proofs.lemmas.Str.{digit_value_digit}
use Rattle.std.proofs.lemmas.Bool.Decides.{nat_tests}
use Rattle.std.proofs.Math.Nat.{pow-le-pow_right, pow-suc}
use Rattle.std.proofs.lemmas.Nat.{mul-add-lt, pow-add}
use Rattle.pit_num.specs.Decimal.{are_digits}

-- a byte that is a digit has a value below ten
pub digit_below : (c : ℕ) → is_ascii_digit c ≡ true → digit_value c < 10
digit_below c h = grind (arith, nat_tests)

-- digits by the test are digits in the words of std's numerals
pub digits_from_test : (ds : List ℕ) → are_digits ds ≡ true → AllDigits 10 ds
digits_from_test [] h = tt
digits_from_test (c ∷ cs) h = let both : (is_ascii_digit c ≡ true) × (are_digits cs ≡ true) = grind (arith, nat_tests) in (digit_below c both.0, digits_from_test cs both.1)

pub digits_take : (i : ℕ) (ds : List ℕ) → AllDigits 10 ds → AllDigits 10 (take i ds)
digits_take zero ds h = tt
digits_take (suc i) [] h = tt
digits_take (suc i) (c ∷ cs) h = (h.0, digits_take i cs h.1)

-- the number that fewer than 38 digits write
pub value_below : (ds : List ℕ) (i : ℕ) → are_digits ds ≡ true → length ds ≤ 38 → i < length ds → digits_value 10 (take i ds) < 10 ^ 37
value_below ds i h short in_range =
    let below : digits_value 10 (take i ds) < 10 ^ length (take i ds) = digits_value-lt 10 (take i ds) (digits_take i ds (digits_from_test ds h)) in
    let few : length (take i ds) ≤ 37 = omega (arith, length-take i ds) in
    let positive : 0 < 10 = lit< tt in
    let power : 10 ^ length (take i ds) ≤ 10 ^ 37 = pow-le-pow_right {n = 10} positive few in
    omega arith

-- each of them is a digit
pub digit_in : (ds : List ℕ) (i : ℕ) → are_digits ds ≡ true → i < length ds → IsInRange 48 57 (get_or ds i 0)
digit_in ds i h in_range = digit_at ds i (digits_from_test ds h) in_range

-- one more digit
pub value_more : (ds : List ℕ) (i : ℕ) → are_digits ds ≡ true → i < length ds → digits_value 10 (take (i + 1) ds) ≡ digits_value 10 (take i ds) * 10 + (get_or ds i 0 - 48)
value_more ds i h in_range =
    let digit : digit_value (get_or ds i 0) + 48 ≡ get_or ds i 0 = digit_value_digit (get_or ds i 0) (digit_in ds i h in_range) in
    omega (arith, digits_value_more 10 ds i in_range)

-- what stands in front counts once for each digit behind it
pub value_after : (n : ℕ) (ds : List ℕ) → digits_value_after 10 n ds ≡ n * 10 ^ length ds + digits_value 10 ds
value_after n [] = omega arith
value_after n (c ∷ cs) =
    let v : ℕ = digit_value c in
    let power : n * 10 ^ suc (length cs) ≡ n * (10 ^ length cs * 10) = ap (λ (m : ℕ). n * m) (pow-suc 10 (length cs)) in
    omega (arith, value_after (n * 10 + digit_value c) cs, value_after (0 * 10 + digit_value c) cs, power)

pub after_append : (n : ℕ) (xs ys : List ℕ) → digits_value_after 10 n (xs ++ ys) ≡ digits_value_after 10 (digits_value_after 10 n xs) ys
after_append n [] ys = refl
after_append n (c ∷ cs) ys = after_append (n * 10 + digit_value c) cs ys

pub value_append : (xs ys : List ℕ) → digits_value 10 (xs ++ ys) ≡ digits_value 10 xs * 10 ^ length ys + digits_value 10 ys
value_append xs ys = after_append 0 xs ys ∙ value_after (digits_value 10 xs) ys

-- the number that n digits write is below ten to the n
pub value_lt : (ds : List ℕ) → are_digits ds ≡ true → digits_value 10 ds < 10 ^ length ds
value_lt ds h = digits_value-lt 10 ds (digits_from_test ds h)

-- at most 38 digits
pub power_le : (k m : ℕ) → k ≤ m → 10 ^ k ≤ 10 ^ m
power_le k m h = let positive : 0 < 10 = lit< tt in pow-le-pow_right {n = 10} positive h

pub joined_lt : (xs ys : List ℕ) → are_digits xs ≡ true → are_digits ys ≡ true → length xs + length ys ≤ 38 → digits_value 10 xs * 10 ^ length ys + digits_value 10 ys < 10 ^ 38
joined_lt xs ys hx hy short =
    let joined : digits_value 10 xs * 10 ^ length ys + digits_value 10 ys < 10 ^ length ys * 10 ^ length xs =
    mul-add-lt (digits_value 10 xs) (10 ^ length ys) (digits_value 10 ys) (10 ^ length xs) (value_lt xs hx) (value_lt ys hy) in
    let power : 10 ^ (length ys + length xs) ≤ 10 ^ 38 = power_le (length ys + length xs) 38 (omega arith) in
    omega (arith, joined, power, pow-add 10 (length ys) (length xs))
