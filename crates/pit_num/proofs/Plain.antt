-- Decimals of few digits, without an exponent.
use Rattle.std.proofs.Common.{◌≡◌, ◌≢◌, ℕ, suc, ◌+◌, ◌-◌, ◌*◌, ◌^◌, ◌<◌, ◌≤◌, ◌&&◌, ◌||◌, not, Bool, true, false, cond, ltb, if◌then◌else◌, List, [], ◌∷◌, ◌++◌, length, length-append, take, drop, ap, subst, sym, ◌∙◌, refl, arith, take-append-drop, length-take, add-zero, Ok}
use Rattle.std.specs.List.{list_any, prefix_len, position_or_len, before_first, after_first}
use Rattle.std.specs.Char.{is_ascii_digit}
use Rattle.std.specs.Str.Parse.{digits_value}
use Rattle.std.proofs.lemmas.List.{take_all, drop_all, append-nil, take_at}
use Rattle.std.proofs.lemmas.List.Folds.{list_all-append}
use Rattle.std.proofs.lemmas.List.Sums.{prefix_len_stops, prefix_len-le-length, prefix_len-drop_no, prefix_len-drop_all}
use Rattle.std.proofs.lemmas.Bool.Decides.{nat_tests}
use Rattle.pit_num.specs.Decimal.{are_digits, is_point, is_e, is_negative, after_sign, mantissa, whole_part, fraction_part, has_exponent, signed_exponent, with_sign, micro_of, millionths, raising_power, lowering_power, significand, exponent, is_number, is_decimal, is_too_long}
use Rattle.pit_num.specs.Inside.Decimal.{after_front_point}
use Rattle.pit_num.specs.declared.limits.TheConstants.{MICRO_LIMIT}
use Rattle.pit_num.specs.Rounding.{nearest}
use Rattle.std.proofs.lemmas.Nat.{pow-add}
use Rattle.std.proofs.Math.Nat.{mul-le-mul_right}
use Rattle.pit_num.proofs.Nearest.{scaled_up, ten_pos}
use Rattle.pit_num.proofs.Digits.{value_append}
use Rattle.pit_num.proofs.Leading.{digits_in_front, digits_to_end}

-- no digit is a point, or an `e`
digit_no_point : (c : ℕ) → is_ascii_digit c ≡ true → is_point c ≡ false
digit_no_point c h = grind (arith, nat_tests)

digit_no_e : (c : ℕ) → is_ascii_digit c ≡ true → is_e c ≡ false
digit_no_e c h = grind (arith, nat_tests)

-- a test that no digit passes goes past digits
place_behind : (p : ℕ → Bool) → ((c : ℕ) → is_ascii_digit c ≡ true → p c ≡ false) → (ds xs : List ℕ) → are_digits ds ≡ true → position_or_len p (ds ++ xs) ≡ length ds + position_or_len p xs
place_behind p fails [] xs h = omega arith
place_behind p fails (d ∷ ds) xs h =
    let both : (is_ascii_digit d ≡ true) × (are_digits ds ≡ true) = grind (arith, nat_tests) in
    ap (λ (b : Bool). cond (not b) (1 + position_or_len p (ds ++ xs)) 0) (fails d both.0) ∙ omega (arith, place_behind p fails ds xs both.1)

any_behind : (p : ℕ → Bool) → ((c : ℕ) → is_ascii_digit c ≡ true → p c ≡ false) → (ds xs : List ℕ) → are_digits ds ≡ true → list_any p (ds ++ xs) ≡ list_any p xs
any_behind p fails [] xs h = refl
any_behind p fails (d ∷ ds) xs h =
    let both : (is_ascii_digit d ≡ true) × (are_digits ds ≡ true) = grind (arith, nat_tests) in
    ap (λ (b : Bool). b || list_any p (ds ++ xs)) (fails d both.0) ∙ any_behind p fails ds xs both.1

-- what may stand behind the digits of a plain number: nothing, or a point and the digits F
pub record IsTail (xs F : List ℕ) : Type 0 where
  pub point : position_or_len is_point xs ≡ 0
  pub fraction : drop 1 xs ≡ F
  pub place : position_or_len is_e xs ≡ length xs
  pub none : list_any is_e xs ≡ false

no_e_place : (ds : List ℕ) → are_digits ds ≡ true → position_or_len is_e ds ≡ length ds
no_e_place ds h = ap (position_or_len is_e) (sym (append-nil ds)) ∙ place_behind is_e digit_no_e ds [] h ∙ omega arith

no_e_any : (ds : List ℕ) → are_digits ds ≡ true → list_any is_e ds ≡ false
no_e_any ds h = ap (list_any is_e) (sym (append-nil ds)) ∙ any_behind is_e digit_no_e ds [] h

pointed : (x : ℕ) (xs : List ℕ) (b : Bool) → is_point x ≡ b → are_digits (if b then xs else x ∷ xs) ≡ true → prefix_len is_ascii_digit (x ∷ xs) ≡ 0 → IsTail (x ∷ xs) (if b then xs else x ∷ xs)
pointed x xs true e digits stops =
    let is : x ≡ 46 = grind (arith, nat_tests) in
    let none : is_e x ≡ false = ap is_e is in
    record {
      point = ap (λ (b : Bool). cond (not b) (1 + position_or_len is_point xs) 0) e;
      fraction = refl;
      place = ap (λ (b : Bool). cond (not b) (1 + position_or_len is_e xs) 0) none ∙ omega (arith, no_e_place xs digits);
      none = ap (λ (b : Bool). b || list_any is_e xs) none ∙ no_e_any xs digits;
    }
pointed x xs false e digits stops =
    let digit : is_ascii_digit x ≡ true = grind (arith, nat_tests) in
    let more : prefix_len is_ascii_digit (x ∷ xs) ≡ 1 + prefix_len is_ascii_digit xs = ap (λ (b : Bool). cond b (1 + prefix_len is_ascii_digit xs) 0) digit in
    absurd (omega (arith, more, stops))

pub tail_is : (xs : List ℕ) → are_digits (after_front_point xs) ≡ true → prefix_len is_ascii_digit xs ≡ 0 → IsTail xs (after_front_point xs)
tail_is [] digits stops = record { point = refl; fraction = refl; place = refl; none = refl }
tail_is (x ∷ xs) digits stops = pointed x xs (is_point x) refl digits stops

-- behind the front's digits stands no digit
pub front_stops : (xs : List ℕ) → prefix_len is_ascii_digit (drop (prefix_len is_ascii_digit xs) xs) ≡ 0
front_stops xs = by (ltb (prefix_len is_ascii_digit xs) (length xs)) refl
  where
    by : (b : Bool) → ltb (prefix_len is_ascii_digit xs) (length xs) ≡ b → prefix_len is_ascii_digit (drop (prefix_len is_ascii_digit xs) xs) ≡ 0
    by true e = let short : prefix_len is_ascii_digit xs < length xs = grind (arith, nat_tests) in prefix_len-drop_no is_ascii_digit xs (prefix_len is_ascii_digit xs) 0 short (prefix_len_stops is_ascii_digit xs 0 short)
    by false e = let long : length xs ≤ prefix_len is_ascii_digit xs = grind (arith, nat_tests) in prefix_len-drop_all is_ascii_digit xs (prefix_len is_ascii_digit xs) long

behind : (W xs : List ℕ) → drop (length W + 1) (W ++ xs) ≡ drop 1 xs
behind [] xs = refl
behind (x ∷ W) xs = let more : length (x ∷ W) + 1 ≡ suc (length W + 1) = omega arith in ap (λ (n : ℕ). drop n (x ∷ (W ++ xs))) more ∙ behind W xs

-- the parts of a plain number
pub record IsPlain (text W F : List ℕ) : Type 0 where
  pub whole : whole_part text ≡ W
  pub fraction : fraction_part text ≡ F
  pub no_exponent : has_exponent text ≡ false
  pub nothing : signed_exponent text ≡ []

pub plain_is : (text W xs F : List ℕ) → after_sign text ≡ W ++ xs → are_digits W ≡ true → IsTail xs F → IsPlain text W F
plain_is text W xs F unsigned digits tail =
    let long : length (W ++ xs) ≡ length W + length xs = length-append W xs in
    let place : position_or_len is_e (W ++ xs) ≡ length (W ++ xs) = omega (arith, place_behind is_e digit_no_e W xs digits, tail.place) in
    let all : mantissa text ≡ W ++ xs = ap (before_first is_e) unsigned ∙ take_all (position_or_len is_e (W ++ xs)) (W ++ xs) (omega arith) in
    let point : position_or_len is_point (W ++ xs) ≡ length W = omega (arith, place_behind is_point digit_no_point W xs digits, tail.point) in
    record {
      whole = ap (before_first is_point) all ∙ ap (λ (n : ℕ). take n (W ++ xs)) point ∙ take_at W xs (length W) refl;
      fraction = ap (after_first is_point) all ∙ ap (λ (n : ℕ). drop (n + 1) (W ++ xs)) point ∙ behind W xs ∙ tail.fraction;
      no_exponent = ap (list_any is_e) unsigned ∙ any_behind is_e digit_no_e W xs digits ∙ tail.none;
      nothing = ap (after_first is_e) unsigned ∙ drop_all (position_or_len is_e (W ++ xs) + 1) (W ++ xs) (omega arith);
    }

spread : (a p b q : ℕ) → (a * p + b) * q ≡ a * (p * q) + b * q
spread a p b q = omega arith

-- what they stand for
pub plain_millionths : (text W F : List ℕ) → IsPlain text W F → length F ≤ 6 → millionths text ≡ digits_value 10 W * 10 ^ 6 + digits_value 10 F * 10 ^ (6 - length F)
plain_millionths text W F plain few =
    let all : length F + (6 - length F) ≡ 6 = omega arith in
    let powers : 10 ^ length F * 10 ^ (6 - length F) ≡ 10 ^ 6 = sym (pow-add 10 (length F) (6 - length F)) ∙ ap (λ (k : ℕ). 10 ^ k) all in
    ap (λ (ds : List ℕ). nearest (digits_value 10 (ds ++ fraction_part text) * 10 ^ raising_power text * 10 ^ 6) (10 ^ (length (fraction_part text) + lowering_power text))) plain.whole
    ∙ ap (λ (ds : List ℕ). nearest (digits_value 10 (W ++ ds) * 10 ^ raising_power text * 10 ^ 6) (10 ^ (length ds + lowering_power text))) plain.fraction
    ∙ ap (λ (ds : List ℕ). nearest (digits_value 10 (W ++ F) * 10 ^ (if is_negative ds then 0 else digits_value 10 (after_sign ds)) * 10 ^ 6) (10 ^ (length F + (if is_negative ds then digits_value 10 (after_sign ds) else 0)))) plain.nothing
    ∙ ap (λ (k : ℕ). nearest (digits_value 10 (W ++ F) * 10 ^ 0 * 10 ^ 6) (10 ^ k)) (add-zero (length F))
    ∙ scaled_up (digits_value 10 (W ++ F)) 0 (length F) few
    ∙ ap (λ (n : ℕ). n * 10 ^ (6 - length F)) (value_append W F)
    ∙ spread (digits_value 10 W) (10 ^ length F) (digits_value 10 F) (10 ^ (6 - length F))
    ∙ ap (λ (n : ℕ). digits_value 10 W * n + digits_value 10 F * 10 ^ (6 - length F)) powers

is_micro : (text : List ℕ) → is_decimal text ≡ true → is_too_long text ≡ false → millionths text < MICRO_LIMIT → micro_of text ≡ Ok (with_sign (is_negative text) (millionths text))
unfolding micro_of
is_micro text decimal short small = grind (arith, nat_tests)

pub plain_micro : (text W F : List ℕ) → IsPlain text W F → are_digits W ≡ true → are_digits F ≡ true → 0 < length W + length F → length W ≤ 12 → length F ≤ 6 → millionths text < MICRO_LIMIT → micro_of text ≡ Ok (with_sign (is_negative text) (millionths text))
plain_micro text W F plain whole fraction some short few small =
    let parts : significand text ≡ W ++ F = ap (λ (ds : List ℕ). ds ++ fraction_part text) plain.whole ∙ ap (λ (ds : List ℕ). W ++ ds) plain.fraction in
    let count : length (significand text) ≡ length W + length F = ap length parts ∙ length-append W F in
    let digits : are_digits (significand text) ≡ true = ap are_digits parts ∙ list_all-append is_ascii_digit W F ∙ ap (λ (b : Bool). b && are_digits F) whole ∙ fraction in
    let number : is_number (significand text) ≡ true = grind (arith, nat_tests) in
    let nothing : exponent text ≡ [] = ap after_sign plain.nothing in
    let no_digits : length (exponent text) ≡ 0 = ap length nothing in
    let decimal : is_decimal text ≡ true = ap (λ (b : Bool). b && (not (has_exponent text) || is_number (exponent text))) number ∙ ap (λ (b : Bool). not b || is_number (exponent text)) plain.no_exponent in
    let not_long : is_too_long text ≡ false = grind (arith, nat_tests) in
    is_micro text decimal not_long small

-- what the parts of a plain number say
pub parts_micro : (text W F : List ℕ) (whole fraction places : ℕ) → IsPlain text W F → are_digits W ≡ true → are_digits F ≡ true → whole ≡ digits_value 10 W → fraction ≡ digits_value 10 F → places ≡ length F → 0 < length W + places → length W ≤ 12 → places ≤ 6
    → whole * 10 ^ 6 + fraction * 10 ^ (6 - places) < MICRO_LIMIT → micro_of text ≡ Ok (with_sign (is_negative text) (whole * 10 ^ 6 + fraction * 10 ^ (6 - places)))
parts_micro text W F whole fraction places plain W_digits F_digits whole_is fraction_is places_is some short few small =
    let value : millionths text ≡ whole * 10 ^ 6 + fraction * 10 ^ (6 - places) =
    plain_millionths text W F plain (omega arith)
    ∙ ap (λ (n : ℕ). n * 10 ^ 6 + digits_value 10 F * 10 ^ (6 - length F)) (sym whole_is)
    ∙ ap (λ (n : ℕ). whole * 10 ^ 6 + n * 10 ^ (6 - length F)) (sym fraction_is)
    ∙ ap (λ (k : ℕ). whole * 10 ^ 6 + fraction * 10 ^ (6 - k)) (sym places_is) in
    plain_micro text W F plain W_digits F_digits (omega arith) short (omega arith) (omega arith)
    ∙ ap (λ (n : ℕ). Ok (with_sign (is_negative text) n)) value

-- what two fronts of digits say of a text
pub fronts_micro : (text U F : List ℕ) (count places whole fraction : ℕ) → U ≡ after_sign text → count ≡ prefix_len is_ascii_digit U → whole ≡ digits_value 10 (take count U) → F ≡ after_front_point (drop count U) → places ≡ prefix_len is_ascii_digit F → fraction ≡ digits_value 10 (take places F) → length F ≤ places → count + places ≢ 0 → count ≤ 12 → places ≤ 6 → whole * 10 ^ 6 + fraction * 10 ^ (6 - places) < MICRO_LIMIT → micro_of text ≡ Ok (with_sign (is_negative text) (whole * 10 ^ 6 + fraction * 10 ^ (6 - places)))
fronts_micro text U F count places whole fraction unsigned count_is whole_is behind_is places_is fraction_is long some short few small =
    let count_le : count ≤ length U = omega (arith, prefix_len-le-length is_ascii_digit U) in
    let places_le : places ≤ length F = omega (arith, prefix_len-le-length is_ascii_digit F) in
    let W_length : length (take count U) ≡ count = omega (arith, length-take count U) in
    let W_digits : are_digits (take count U) ≡ true = digits_in_front U count (omega arith) in
    let F_digits : are_digits F ≡ true = digits_to_end F (omega arith) in
    let stops : prefix_len is_ascii_digit (drop count U) ≡ 0 = ap (λ (k : ℕ). prefix_len is_ascii_digit (drop k U)) count_is ∙ front_stops U in
    let tail : IsTail (drop count U) F = subst (λ (ds : List ℕ). IsTail (drop count U) ds) (sym behind_is) (tail_is (drop count U) (ap are_digits (sym behind_is) ∙ F_digits) stops) in
    let plain : IsPlain text (take count U) F = plain_is text (take count U) (drop count U) F (sym unsigned ∙ sym (take-append-drop count U)) W_digits tail in
    let F_value : fraction ≡ digits_value 10 F = fraction_is ∙ ap (λ (ds : List ℕ). digits_value 10 ds) (take_all places F long) in
    parts_micro text (take count U) F whole fraction places plain W_digits F_digits whole_is F_value (omega arith) (omega arith) (omega arith) few small

-- a number of few digits is below the limit
pub plain_bound : (whole fraction places : ℕ) → whole < 10 ^ 12 → fraction < 10 ^ places → places ≤ 6 → whole * 10 ^ 6 + fraction * 10 ^ (6 - places) < MICRO_LIMIT
plain_bound whole fraction places small part few =
    let all : places + (6 - places) ≡ 6 = omega arith in
    let powers : 10 ^ places * 10 ^ (6 - places) ≡ 10 ^ 6 = sym (pow-add 10 places (6 - places)) ∙ ap (λ (k : ℕ). 10 ^ k) all in
    let below : (fraction + 1) * 10 ^ (6 - places) ≤ 10 ^ places * 10 ^ (6 - places) = mul-le-mul_right (10 ^ (6 - places)) (omega arith) in
    omega (arith, below, powers, ten_pos (6 - places))
