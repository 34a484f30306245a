-- The digits in front of eight bytes, which a load reads at once.
use Rattle.std.proofs.Common.{◌≡◌, ℕ, zero, suc, ◌+◌, ◌-◌, ◌*◌, ◌%◌, ◌^◌, ◌<◌, ◌≤◌, ◌&&◌, Bool, true, false, not, cond, ltb, eqb, min, List, [], ◌∷◌, ◌++◌, map, length, get_or, take, replicate, bit_xor, refl, sym, ap, ◌∙◌, arith, length-take, Fits, w8, w64}
use lib.Arith.{digits_div, digits_mod, mod-mul}
use lib.Bits.{xor_lt}
use lib.Lanes.{number_l, mask_l, top, zip2}
use lib.ListN.{length-append, length-map, length-replicate}
use lib.Pow.{pow-add}
use Rattle.std.specs.Int.{from_le_bytes}
use Rattle.std.specs.Int.Digits.{number_from_digits, AllBelowBase}
use Rattle.std.specs.Str.Parse.{digits_value}
use Rattle.std.specs.Char.{digit_value, is_ascii_digit}
use Rattle.std.specs.List.{prefix_len}
use Rattle.std.proofs.Math.Nat.{mul-div_cancel, add-zero, pow-suc, zero-mod, mul-mod_left}
use Rattle.std.proofs.lemmas.Bool.Decides.{nat_tests}
use Rattle.std.proofs.lemmas.Bool.{eqb-true, agree_below_at}
use Rattle.std.proofs.lemmas.Simd.{zip2_splat, zip2_splat_left, mask_l-mod}
use Rattle.std.proofs.lemmas.Int.Digits.{digits_value_is}

abbrev pub value : ℕ → ℕ
value x = bit_xor x 48

abbrev pub other : ℕ → Bool
other x = ltb 9 (value x)

-- which lanes are no digits
top_of : (a : Bool) → top 7 (cond a 255 0) ≡ a
top_of true = refl
top_of false = refl

tops : (v : List ℕ) → map (top 7) (map (λ x. cond (ltb 9 x) 255 0) (map value v)) ≡ map other v
tops [] = refl
tops (x ∷ xs) = λ i. top_of (other x) i ∷ tops xs i

pub other_mask : (v : List ℕ) → length v ≡ 8 → mask_l (map (top 7) (zip2 (λ a b. cond (ltb a b) 255 0) (replicate 8 9) (zip2 bit_xor v (replicate 8 48)))) % 2 ^ 64 ≡ mask_l (map other v)
other_mask v long =
    let few : length (map other v) ≤ 64 = omega (arith, length-map v other, long) in
    let lanes = zip2_splat bit_xor v 8 48 long in
    let compared = zip2_splat_left (λ a b. cond (ltb a b) 255 0) 9 8 (map value v) (length-map v value ∙ long) in
    ap (λ z. mask_l (map (top 7) (zip2 (λ a b. cond (ltb a b) 255 0) (replicate 8 9) z)) % 2 ^ 64) lanes ∙ ap (λ z. mask_l (map (top 7) z) % 2 ^ 64) compared ∙ ap (λ ms. mask_l ms % 2 ^ 64) (tops v) ∙ mask_l-mod (map other v) 64 few

flag : (x : ℕ) → x < 256 → not (other x) ≡ is_ascii_digit x
flag x h = agree_below_at (λ y. not (other y)) is_ascii_digit 256 x refl h

pub digits_run : (v : List ℕ) → AllBelowBase 256 v → prefix_len (λ x. not (other x)) v ≡ prefix_len is_ascii_digit v
digits_run [] h = refl
digits_run (x ∷ xs) h = let rest = digits_run xs h.1 in let here = flag x h.0 in λ i. cond (here i) (1 + rest i) 0

pub bytes_of : (xs : List ℕ) → ((k : ℕ) → Fits w8 (get_or xs k 0)) → AllBelowBase 256 xs
bytes_of [] h = tt
bytes_of (x ∷ xs) h = ((h 0).fits, bytes_of xs (λ k. h (suc k)))

pub bytes-take : (n : ℕ) (xs : List ℕ) → AllBelowBase 256 xs → AllBelowBase 256 (take n xs)
bytes-take zero xs h = tt
bytes-take (suc n) [] h = tt
bytes-take (suc n) (x ∷ xs) h = (h.0, bytes-take n xs h.1)

-- a word of eight bytes
pub word_is : (ds : List ℕ) → length ds ≡ 8 → from_le_bytes w64 ds ≡ number_l 256 ds
word_is [] h = absurd (omega arith)
word_is (a ∷ []) h = absurd (omega arith)
word_is (a ∷ b ∷ []) h = absurd (omega arith)
word_is (a ∷ b ∷ c ∷ []) h = absurd (omega arith)
word_is (a ∷ b ∷ c ∷ d ∷ []) h = absurd (omega arith)
word_is (a ∷ b ∷ c ∷ d ∷ f ∷ []) h = absurd (omega arith)
word_is (a ∷ b ∷ c ∷ d ∷ f ∷ g ∷ []) h = absurd (omega arith)
word_is (a ∷ b ∷ c ∷ d ∷ f ∷ g ∷ i ∷ []) h = absurd (omega arith)
word_is (a ∷ b ∷ c ∷ d ∷ f ∷ g ∷ i ∷ j ∷ k ∷ ds) h = absurd (omega arith)
word_is (a ∷ b ∷ c ∷ d ∷ f ∷ g ∷ i ∷ j ∷ []) h = omega arith

digit : (x : ℕ) → is_ascii_digit x ≡ true → (value x < 10) × (value x ≡ digit_value x)
digit x e =
    let small : x < 58 = grind (arith, nat_tests) in
    let same : eqb (value x) (digit_value x) && ltb (value x) 10 ≡ is_ascii_digit x = agree_below_at (λ y. eqb (value y) (digit_value y) && ltb (value y) 10) is_ascii_digit 58 x refl small in
    let both : eqb (value x) (digit_value x) && ltb (value x) 10 ≡ true = same ∙ e in
    (grind (arith, nat_tests), grind (arith, nat_tests))

-- the lanes of the leading digits are the digits' values
values : (xs : List ℕ) (n : ℕ) → n ≤ prefix_len is_ascii_digit xs → AllBelowBase 10 (map value (take n xs)) × (map value (take n xs) ≡ map digit_value (take n xs))
values xs zero h = (tt, refl)
values [] (suc n) h = (tt, refl)
values (x ∷ xs) (suc n) h = go (values xs n) (is_ascii_digit x) refl h
  where
    go : (n ≤ prefix_len is_ascii_digit xs → AllBelowBase 10 (map value (take n xs)) × (map value (take n xs) ≡ map digit_value (take n xs))) → (b : Bool) → is_ascii_digit x ≡ b → suc n ≤ cond b (1 + prefix_len is_ascii_digit xs) 0 → AllBelowBase 10 (map value (take (suc n) (x ∷ xs))) × (map value (take (suc n) (x ∷ xs)) ≡ map digit_value (take (suc n) (x ∷ xs)))
    go rest true e k = let r = rest (omega arith) in (((digit x e).0, r.0), λ i. (digit x e).1 i ∷ r.1 i)
    go rest false e k = absurd (omega arith)

power_pos : (n : ℕ) → 0 < 256 ^ n
power_pos zero = omega arith
power_pos (suc n) = omega (arith, power_pos n, pow-suc 256 n)

take-map : (f : ℕ → ℕ) (n : ℕ) (xs : List ℕ) → take n (map f xs) ≡ map f (take n xs)
take-map f zero xs = refl
take-map f (suc n) [] = refl
take-map f (suc n) (x ∷ xs) = ap (λ l. f x ∷ l) (take-map f n xs)

padded : (k : ℕ) (ds : List ℕ) → AllBelowBase 10 ds
    → AllBelowBase 10 (replicate k 0 ++ ds) × (number_l 256 (replicate k 0 ++ ds) ≡ number_l 256 ds * 256 ^ k) × (number_from_digits 10 (replicate k 0 ++ ds) ≡ number_from_digits 10 ds)
padded zero ds h = (h, omega arith, refl)
padded (suc k) ds h = let r = padded k ds h in ((omega arith, r.0), omega (arith, ap (λ x. number_l 256 ds * x) (pow-suc 256 k)), r.2)

front : (xs : List ℕ) (n : ℕ) → AllBelowBase 256 xs → number_l 256 xs % 256 ^ n ≡ number_l 256 (take n xs)
front xs zero h = omega arith
front [] (suc n) h = zero-mod _
front (x ∷ xs) (suc n) h =
    let e : x + 256 * number_l 256 xs ≡ number_l 256 xs * 256 + x = omega arith in
    let byte : 0 < 256 = omega arith in
    rw (pow-suc, e, mod-mul _ (power_pos n) byte, digits_div _ h.0, digits_mod _ h.0, front xs n h.1) (omega arith)

mod_scaled : (a m c : ℕ) → 0 < m → 0 < c → a * c % (m * c) ≡ a % m * c
mod_scaled a m c M C = rw (mod-mul _ M C, mul-div_cancel a C, mul-mod_left, add-zero)

lanes_fit : (xs : List ℕ) → AllBelowBase 256 xs → AllBelowBase 256 (map value xs)
lanes_fit [] h = tt
lanes_fit (x ∷ xs) h = (xor_lt 8 x 48 h.0 (omega arith), lanes_fit xs h.1)

-- Shifted up until the first n lanes are the last, the word has zeros and then the n digits.
pub shifted_is : (xs : List ℕ) (n word : ℕ) → (length xs ≡ 8) × AllBelowBase 256 xs → n ≤ prefix_len is_ascii_digit xs → n ≤ 8 → word ≡ number_l 256 (map value xs) * 256 ^ (8 - n) % 2 ^ 64
    → (ds : List ℕ) × ((length ds ≡ 8) × AllBelowBase 10 ds) × (word ≡ number_l 256 ds) × (number_from_digits 10 ds ≡ digits_value 10 (take n xs))
shifted_is xs n word eight digits few e =
    let long = eight.0 in
    let v = values xs n digits in
    let p = padded (8 - n) (map value (take n xs)) v.0 in
    let all : 256 ^ n * 256 ^ (8 - n) ≡ 2 ^ 64 = sym (pow-add 256 n (8 - n)) ∙ ap (λ k. 256 ^ k) {y = 8} (omega arith) in (
      replicate (8 - n) 0 ++ map value (take n xs),
      (omega (arith, length-append (replicate (8 - n) 0) (map value (take n xs)), length-replicate {A = ℕ} (8 - n) 0, length-map (take n xs) value, length-take n xs), p.0),
      e ∙ rw (← all, mod_scaled _ _ _ (power_pos n) (power_pos (8 - n)), front _ n (lanes_fit xs eight.1), take-map) (sym p.1),
      p.2 ∙ ap (number_from_digits 10) v.1 ∙ sym (digits_value_is 10 (take n xs)),
    )

-- the shift of bits is one of bytes
powers : (k : ℕ) → k < 9 → eqb (2 ^ (8 * k)) (256 ^ k) ≡ true
powers k h = agree_below_at (λ j. eqb (2 ^ (8 * j)) (256 ^ j)) (λ _. true) 9 k refl h

pub bytes_up : (word k : ℕ) → k < 9 → word * 2 ^ (8 * k) % 2 ^ 64 ≡ word * 256 ^ k % 2 ^ 64
bytes_up word k h =
    let same : 2 ^ (8 * k) ≡ 256 ^ k = eqb-true _ _ (powers k h) in
    ap (λ p. word * p % 2 ^ 64) same

-- ---- from the first bytes to all

one_more : (n run whole : ℕ) (b : Bool) → run ≡ min n whole → cond b (1 + run) 0 ≡ min (suc n) (cond b (1 + whole) 0)
one_more n run whole true h = omega arith
one_more n run whole false h = omega arith

pub run_in_front : (xs : List ℕ) (n : ℕ) → prefix_len is_ascii_digit (take n xs) ≡ min n (prefix_len is_ascii_digit xs)
run_in_front xs zero = omega arith
run_in_front [] (suc n) = omega arith
run_in_front (x ∷ xs) (suc n) = one_more n _ _ (is_ascii_digit x) (run_in_front xs n)
