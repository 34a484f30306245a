-- The digits at the front of a text.
use Rattle.std.proofs.Common.{◌≡◌, ◌≢◌, ℕ, zero, suc, ◌+◌, ◌-◌, ◌*◌, ◌^◌, ◌<◌, ◌≤◌, ◌&&◌, Bool, true, false, cond, ltb, List, [], ◌∷◌, length, take, get_or, ap, subst, sym, ◌∙◌, refl, arith, length-take}
use Rattle.std.specs.List.{prefix_len}
use Rattle.std.specs.Char.{is_ascii_digit, digit_value}
use Rattle.std.proofs.lemmas.Int.Digits.{digits_value_more}
use Rattle.std.proofs.lemmas.Str.{digit_value_digit}
use Rattle.std.specs.Str.Parse.{digits_value}
use Rattle.std.proofs.lemmas.List.{take_all}
use Rattle.std.proofs.lemmas.Bool.Decides.{nat_tests}
use Rattle.std.proofs.lemmas.List.Sums.{prefix_len_passes, prefix_len_stops, prefix_len-le-length}
use Rattle.pit_num.specs.Decimal.{are_digits}
use Rattle.pit_num.proofs.Digits.{value_lt}

-- what stands before the first byte that is no digit are digits
in_front : (x : ℕ) (xs : List ℕ) (i : ℕ) (b : Bool) → is_ascii_digit x ≡ b → (i ≤ prefix_len is_ascii_digit xs → are_digits (take i xs) ≡ true) → suc i ≤ cond b (1 + prefix_len is_ascii_digit xs) 0 → (is_ascii_digit x && are_digits (take i xs)) ≡ true
in_front x xs i true e rest h = ap (λ (b : Bool). b && are_digits (take i xs)) e ∙ rest (omega arith)
in_front x xs i false e rest h = absurd (omega arith)

pub digits_in_front : (xs : List ℕ) (i : ℕ) → i ≤ prefix_len is_ascii_digit xs → are_digits (take i xs) ≡ true
digits_in_front xs zero h = refl
digits_in_front [] (suc i) h = refl
digits_in_front (x ∷ xs) (suc i) h = in_front x xs i (is_ascii_digit x) refl (digits_in_front xs i) h

-- where they reach the end, all are digits
pub digits_to_end : (xs : List ℕ) → length xs ≤ prefix_len is_ascii_digit xs → are_digits xs ≡ true
digits_to_end xs h = ap are_digits (sym (take_all (length xs) xs (omega arith))) ∙ digits_in_front xs (length xs) h

-- and where they don't, some byte is none
stopped : (x : ℕ) (xs : List ℕ) (b : Bool) → is_ascii_digit x ≡ b → (prefix_len is_ascii_digit xs < length xs → are_digits xs ≡ false) → cond b (1 + prefix_len is_ascii_digit xs) 0 < length (x ∷ xs) → (is_ascii_digit x && are_digits xs) ≡ false
stopped x xs true e rest h = ap (λ (b : Bool). b && are_digits xs) e ∙ rest (omega arith)
stopped x xs false e rest h = ap (λ (b : Bool). b && are_digits xs) e

pub digits_end : (xs : List ℕ) → prefix_len is_ascii_digit xs < length xs → are_digits xs ≡ false
digits_end [] h = absurd (omega arith)
digits_end (x ∷ xs) h = stopped x xs (is_ascii_digit x) refl (digits_end xs) h

-- all digits are in front
pub all_in_front : (xs : List ℕ) → are_digits xs ≡ true → prefix_len is_ascii_digit xs ≡ length xs
all_in_front xs h = by (ltb (prefix_len is_ascii_digit xs) (length xs)) refl
  where
    by : (b : Bool) → ltb (prefix_len is_ascii_digit xs) (length xs) ≡ b → prefix_len is_ascii_digit xs ≡ length xs
    by true e = let other : are_digits xs ≡ false = digits_end xs (grind (arith, nat_tests)) in cc
    by false e = let long : length xs ≤ prefix_len is_ascii_digit xs = grind (arith, nat_tests) in omega (arith, prefix_len-le-length is_ascii_digit xs)

-- one more digit
pub front_more : (xs : List ℕ) (i : ℕ) → i ≤ prefix_len is_ascii_digit xs → i < length xs → is_ascii_digit (get_or xs i 0) ≡ true → i + 1 ≤ prefix_len is_ascii_digit xs
front_more xs i h in_range digit = by (ltb i (prefix_len is_ascii_digit xs)) refl
  where
    by : (b : Bool) → ltb i (prefix_len is_ascii_digit xs) ≡ b → i + 1 ≤ prefix_len is_ascii_digit xs
    by true e = grind (arith, nat_tests)
    by false e =
        let here : prefix_len is_ascii_digit xs ≡ i = grind (arith, nat_tests) in
        let stops : is_ascii_digit (get_or xs i 0) ≡ false = subst (λ (k : ℕ). is_ascii_digit (get_or xs k 0) ≡ false) here (prefix_len_stops is_ascii_digit xs 0 (omega arith)) in
        cc

-- no digit: the front ends
pub front_is : (xs : List ℕ) (i : ℕ) → i ≤ prefix_len is_ascii_digit xs → is_ascii_digit (get_or xs i 0) ≡ false → i ≡ prefix_len is_ascii_digit xs
front_is xs i h other = by (ltb i (prefix_len is_ascii_digit xs)) refl
  where
    by : (b : Bool) → ltb i (prefix_len is_ascii_digit xs) ≡ b → i ≡ prefix_len is_ascii_digit xs
    by true e =
        let passes : is_ascii_digit (get_or xs i 0) ≡ true = prefix_len_passes is_ascii_digit xs i 0 (grind (arith, nat_tests)) in
        cc
    by false e = grind (arith, nat_tests)

-- what they write
pub front_value_lt : (xs : List ℕ) (i : ℕ) → i ≤ prefix_len is_ascii_digit xs → digits_value 10 (take i xs) < 10 ^ i
front_value_lt xs i h =
    let whole : length (take i xs) ≡ i = omega (arith, length-take i xs, prefix_len-le-length is_ascii_digit xs) in
    subst (λ (k : ℕ). digits_value 10 (take i xs) < 10 ^ k) whole (value_lt (take i xs) (digits_in_front xs i h))

-- and with one digit more
pub front_value_more : (xs : List ℕ) (i : ℕ) → i + 1 ≤ prefix_len is_ascii_digit xs → i < length xs → digits_value 10 (take (i + 1) xs) ≡ digits_value 10 (take i xs) * 10 + (get_or xs i 0 - 48)
front_value_more xs i h in_range =
    let digit : is_ascii_digit (get_or xs i 0) ≡ true = prefix_len_passes is_ascii_digit xs i 0 (omega arith) in
    let value : digit_value (get_or xs i 0) + 48 ≡ get_or xs i 0 = digit_value_digit (get_or xs i 0) (grind (arith, nat_tests)) in
    omega (arith, digits_value_more 10 xs i in_range)

-- where all are digits, they write the text's number
pub front_is_all : (xs : List ℕ) (n : ℕ) → n ≡ prefix_len is_ascii_digit xs → length xs ≤ n → take n xs ≡ xs
front_is_all xs n is long = take_all n xs long

-- a front of some digits is one of some text
pub some_digit : (xs : List ℕ) (n : ℕ) → n ≡ prefix_len is_ascii_digit xs → n ≢ 0 → 0 < length xs
some_digit xs n is some = omega (arith, prefix_len-le-length is_ascii_digit xs)

pub ruleset leading = (digits_end)
