-- Numbers that a text begins with.
use Rattle.std.proofs.Common.{◌≡◌, ◌≢◌, ℕ, ◌+◌, ◌-◌, ◌*◌, ◌^◌, ◌<◌, ◌≤◌, ◌&&◌, ◌==◌, not, if◌then◌else◌, Bool, true, false, cond, List, [], ◌∷◌, ◌++◌, length, take, drop, get_or, min, ap, subst, sym, ◌∙◌, refl, arith, append_assoc, Ok}
use Rattle.std.specs.List.{list_all, prefix_len, position_or_len}
use Rattle.std.specs.Char.{is_ascii_digit}
use Rattle.std.specs.Str.Parse.{digits_value}
use Rattle.std.proofs.lemmas.List.{take-take, drop_more, take-append-drop, length-take}
use Rattle.std.proofs.lemmas.List.Sums.{prefix_len-le-length}
use Rattle.std.proofs.lemmas.List.Folds.{list_all-append}
use Rattle.std.proofs.lemmas.Bool.Decides.{nat_tests}
use Rattle.pit_num.specs.Decimal.{are_digits, is_sign, is_negative, after_sign, is_point, whole_of, with_sign}
use Rattle.pit_num.specs.Front.{IsWholeThen, is_value, IsMicroThen}
use Rattle.pit_num.specs.Inside.Decimal.{after_front_point, with_minus, IsFractionThen}
use Rattle.pit_num.specs.declared.limits.TheConstants.{MICRO_LIMIT}
use Rattle.pit_num.proofs.Digits.{value_lt, power_le}
use Rattle.pit_num.proofs.Leading.{digits_in_front}
use Rattle.pit_num.proofs.Plain.{IsTail, tail_is, IsPlain, plain_is, parts_micro}

-- few digits write a number that is small enough
few_digits : (ds : List ℕ) → are_digits ds ≡ true → 0 < length ds → length ds ≤ 9 → whole_of ds ≡ Ok (digits_value 10 ds)
unfolding whole_of
few_digits ds digits some few =
    let small : digits_value 10 ds < 2 ^ 32 = omega (arith, value_lt ds digits, power_le (length ds) 9 few) in
    grind (arith, nat_tests)

-- the digits that are found among the first bytes of a text, in the words of what finds them
record IsDigits (text : List ℕ) (n count : ℕ) : Type 0 where
  digits : are_digits (take count text) ≡ true
  size : length (take count text) ≡ count
  value : n ≡ digits_value 10 (take count text)

digits_among : (text : List ℕ) (most n count : ℕ) → count ≡ prefix_len is_ascii_digit (take most text) → n ≡ digits_value 10 (take count (take most text)) → IsDigits text n count
digits_among text most n count count_is value =
    let short_text = take most text in
    let long : length short_text ≡ min most (length text) = length-take most text in
    let at : count ≤ length short_text = omega (arith, count_is, prefix_len-le-length is_ascii_digit short_text) in
    let seen : take count short_text ≡ take count text = take-take count most text (omega (arith, at, long)) in
    record {
      digits = ap are_digits (sym seen) ∙ digits_in_front short_text count (omega (arith, count_is));
      size = omega (arith, length-take count text, at, long);
      value = value ∙ ap (λ (l : List ℕ). digits_value 10 l) seen;
    }

-- a byte, and what is behind it
pub front_byte : (text : List ℕ) (end : ℕ) → 0 < length text → get_or text 0 0 ≡ end → text ≡ end ∷ drop 1 text
front_byte text end within is = drop_more text 0 0 within ∙ ap (λ (b : ℕ). b ∷ drop 1 text) is

pub whole_in_front : (text : List ℕ) (most n count end : ℕ) → count ≡ prefix_len is_ascii_digit (take most text) → n ≡ digits_value 10 (take count (take most text)) → count ≤ 9 → 0 < count
    → 0 < length (drop count text) → get_or (drop count text) 0 0 ≡ end → IsWholeThen text n end (drop 1 (drop count text))
whole_in_front text most n count end count_is value short some within is =
    let ds : List ℕ = take count text in
    let found = digits_among text most n count count_is value in
    record {
      digits = ds;
      whole = sym (take-append-drop count text) ∙ ap (λ (l : List ℕ). ds ++ l) (front_byte (drop count text) end within is);
      number = few_digits ds found.digits (omega (arith, found.size, some)) (omega (arith, found.size, short)) ∙ ap (λ (k : ℕ). Ok k) (sym found.value);
    }

-- ---- decimals

values : (ds : List ℕ) → are_digits ds ≡ true → list_all is_value ds ≡ true
values [] h = refl
values (d ∷ ds) h =
    let both : (is_ascii_digit d ≡ true) × (are_digits ds ≡ true) = grind (arith, nat_tests) in
    let first : is_value d ≡ true = grind (arith, nat_tests) in
    ap (λ (b : Bool). b && list_all is_value ds) first ∙ values ds both.1

-- a point and digits
pub point_then : (text behind : List ℕ) (most fraction places : ℕ) → text ≡ 46 ∷ behind → places ≡ prefix_len is_ascii_digit (take most behind) → fraction ≡ digits_value 10 (take places (take most behind)) → places ≤ 6
    → IsFractionThen text fraction places (drop places behind)
point_then text behind most fraction places is places_is value few =
    let found = digits_among behind most fraction places places_is value in
    record {
      tail = 46 ∷ take places behind;
      whole = is ∙ ap (λ (l : List ℕ). 46 ∷ l) (sym (take-append-drop places behind));
      stops = refl;
      digits = found.digits;
      bytes = values (take places behind) found.digits;
      value = found.value;
      count = sym found.size;
      few = few;
    }

pub no_point : (text : List ℕ) → IsFractionThen text 0 0 text
no_point text = record { tail = []; whole = refl; stops = refl; digits = refl; bytes = refl; value = refl; count = refl; few = omega arith }

-- a text with no sign in front
record IsUnsigned (text : List ℕ) : Type 0 where
  after : after_sign text ≡ text
  sign : is_negative text ≡ false

no_sign : (x : ℕ) (xs : List ℕ) → is_sign x ≡ false → (x == 45) ≡ false → IsUnsigned (x ∷ xs)
no_sign x xs none other = record { after = ap (λ (b : Bool). if b then xs else x ∷ xs) none; sign = other }

unsigned : (W tail F : List ℕ) → are_digits W ≡ true → IsTail tail F → IsUnsigned (W ++ tail)
unsigned [] [] F digits is = record { after = refl; sign = refl }
unsigned [] (x ∷ xs) F digits is =
    let at : cond (not (is_point x)) (1 + position_or_len is_point xs) 0 ≡ 0 = is.point in
    let point : x ≡ 46 = grind (arith, nat_tests) in
    no_sign x xs (ap is_sign point) (ap (λ (b : ℕ). b == 45) point)
unsigned (d ∷ W) tail F digits is =
    let digit : is_ascii_digit d ≡ true = grind (arith, nat_tests) in
    no_sign d (W ++ tail) (grind (arith, nat_tests)) (grind (arith, nat_tests))

record IsMinus (negative : Bool) (bare : List ℕ) : Type 0 where
  after : after_sign (with_minus negative bare) ≡ bare
  sign : is_negative (with_minus negative bare) ≡ negative

minus : (negative : Bool) (bare : List ℕ) → IsUnsigned bare → IsMinus negative bare
minus true bare is = record { after = refl; sign = refl }
minus false bare is = record { after = is.after; sign = is.sign }

minus_bytes : (negative : Bool) (bare : List ℕ) → list_all is_value bare ≡ true → list_all is_value (with_minus negative bare) ≡ true
minus_bytes true bare h = h
minus_bytes false bare h = h

minus_append : (negative : Bool) (bare rest : List ℕ) → with_minus negative (bare ++ rest) ≡ with_minus negative bare ++ rest
minus_append true bare rest = refl
minus_append false bare rest = refl

pub micro_in_front : (text U behind : List ℕ) (negative : Bool) (most count whole fraction places end : ℕ) → text ≡ with_minus negative U → count ≡ prefix_len is_ascii_digit (take most U) → whole ≡ digits_value 10 (take count (take most U)) → count ≤ 12
    → IsFractionThen (drop count U) fraction places behind → count + places ≢ 0 → whole * 10 ^ 6 + fraction * 10 ^ (6 - places) < MICRO_LIMIT → 0 < length behind → get_or behind 0 0 ≡ end
    → IsMicroThen text (with_sign negative (whole * 10 ^ 6 + fraction * 10 ^ (6 - places))) end (drop 1 behind)
micro_in_front text U behind negative most count whole fraction places end signed count_is value short part some small within is =
    let W : List ℕ = take count U in
    let F : List ℕ = after_front_point part.tail in
    let bare : List ℕ = W ++ part.tail in
    let field : List ℕ = with_minus negative bare in
    let n : ℕ = whole * 10 ^ 6 + fraction * 10 ^ (6 - places) in
    let found = digits_among U most whole count count_is value in
    let tail = tail_is part.tail part.digits part.stops in
    let minus_is = minus negative bare (unsigned W part.tail F found.digits tail) in
    let plain : IsPlain field W F = plain_is field W part.tail F minus_is.after found.digits tail in
    let next : drop count U ≡ part.tail ++ end ∷ drop 1 behind = part.whole ∙ ap (λ (l : List ℕ). part.tail ++ l) (front_byte behind end within is) in
    let bare_then : U ≡ bare ++ end ∷ drop 1 behind = sym (take-append-drop count U) ∙ ap (λ (l : List ℕ). W ++ l) next ∙ sym (append_assoc W part.tail (end ∷ drop 1 behind)) in
    record {
      field = field;
      whole = signed ∙ ap (λ (l : List ℕ). with_minus negative l) bare_then ∙ minus_append negative bare (end ∷ drop 1 behind);
      bytes = minus_bytes negative bare (list_all-append is_value W part.tail ∙ ap (λ (b : Bool). b && list_all is_value part.tail) (values W found.digits) ∙ part.bytes);
      number =
          parts_micro field W F whole fraction places plain found.digits part.digits found.value part.value part.count (omega (arith, found.size, some)) (omega (arith, found.size, short)) part.few small
          ∙ ap (λ (b : Bool). Ok (with_sign b n)) minus_is.sign;
    }

pub fraction_lt : (text : List ℕ) (fraction places : ℕ) (rest : List ℕ) → IsFractionThen text fraction places rest → fraction < 10 ^ places
fraction_lt text fraction places rest is =
    let below : digits_value 10 (after_front_point is.tail) < 10 ^ length (after_front_point is.tail) = value_lt (after_front_point is.tail) is.digits in
    subst (λ (k : ℕ). fraction < 10 ^ k) (sym is.count) (omega (arith, is.value, below))
