-- What the texts of numbers stand for.
use Rattle.std.specs.Prelude.{ℕ, ℤ, pos, neg_ℤ, ◌+◌, ◌*◌, ◌^◌, ◌==◌, ◌&&◌, ◌||◌, not, nat_lt, nat_le, Bool, false, if◌then◌else◌, List, [], ◌∷◌, ◌++◌, length, Result, Ok, Err}
use Rattle.std.specs.Str.Parse.{digits_value}
use Rattle.std.specs.List.{before_first, after_first, list_any, list_all}
use Rattle.std.specs.Char.{is_ascii_digit}
use Rattle.pit_num.specs.Rounding.{nearest}
use Rattle.pit_num.specs.declared.limits.TheConstants.{MICRO_LIMIT}
use Rattle.pit_num.specs.declared.parse.TheConstants.{DIGITS_MAX, EXPONENT_DIGITS_MAX}
use Rattle.pit_num.specs.declared.parse.NumError.{NumError}
use Rattle.pit_num.specs.declared.parse.NumError.TheVariants.{Malformed, TooLong, TooLarge}

-- digits alone
abbrev pub are_digits : List ℕ → Bool
are_digits text = list_all is_ascii_digit text

-- one digit or more, and nothing else
abbrev pub is_number : List ℕ → Bool
is_number text = nat_lt 0 (length text) && are_digits text

-- the first refusal that applies, or else the number
unfoldable pub whole_of : List ℕ → Result ℕ NumError
whole_of text =
    if not (is_number text) then Err Malformed
    else if nat_lt DIGITS_MAX (length text) then Err TooLong
    else if nat_le (2 ^ 32) (digits_value 10 text) then Err TooLarge
    else Ok (digits_value 10 text)

-- ---- decimals: a sign, digits with a point among them, an exponent

abbrev pub is_sign : ℕ → Bool
is_sign b = b == 43 || b == 45

abbrev pub is_point : ℕ → Bool
is_point b = b == 46

abbrev pub is_e : ℕ → Bool
is_e b = b == 69 || b == 101

abbrev pub is_negative : List ℕ → Bool
is_negative [] = false
is_negative (b ∷ bs) = b == 45

abbrev pub after_sign : List ℕ → List ℕ
after_sign [] = []
after_sign (b ∷ bs) = if is_sign b then bs else b ∷ bs

-- the parts of a text: the digits before and after the point, the exponent's digits where there is an `e`
abbrev pub mantissa : List ℕ → List ℕ
mantissa text = before_first is_e (after_sign text)

abbrev pub whole_part : List ℕ → List ℕ
whole_part text = before_first is_point (mantissa text)

abbrev pub fraction_part : List ℕ → List ℕ
fraction_part text = after_first is_point (mantissa text)

abbrev pub has_exponent : List ℕ → Bool
has_exponent text = list_any is_e (after_sign text)

-- the exponent with its sign
abbrev pub signed_exponent : List ℕ → List ℕ
signed_exponent text = after_first is_e (after_sign text)

abbrev pub exponent : List ℕ → List ℕ
exponent text = after_sign (signed_exponent text)

abbrev pub significand : List ℕ → List ℕ
significand text = whole_part text ++ fraction_part text

abbrev pub is_decimal : List ℕ → Bool
is_decimal text =
    is_number (significand text) && (not (has_exponent text) || is_number (exponent text))

abbrev pub is_too_long : List ℕ → Bool
is_too_long text = nat_lt DIGITS_MAX (length (significand text)) || nat_lt EXPONENT_DIGITS_MAX (length (exponent text))

-- ten to the exponent stands in the numerator, or in the denominator
abbrev pub raising_power : List ℕ → ℕ
raising_power text = if is_negative (signed_exponent text) then 0 else digits_value 10 (exponent text)

abbrev pub lowering_power : List ℕ → ℕ
lowering_power text = if is_negative (signed_exponent text) then digits_value 10 (exponent text) else 0

-- the magnitude that the text stands for is numerator over denominator
abbrev pub numerator : List ℕ → ℕ
numerator text = digits_value 10 (significand text) * 10 ^ raising_power text

abbrev pub denominator : List ℕ → ℕ
denominator text = 10 ^ (length (fraction_part text) + lowering_power text)

-- the magnitude in millionths, a half away from zero
abbrev pub millionths : List ℕ → ℕ
millionths text = nearest (numerator text * 10 ^ 6) (denominator text)

abbrev pub with_sign : Bool → ℕ → ℤ
with_sign negative n = if negative then neg_ℤ (pos n) else pos n

unfoldable pub micro_of : List ℕ → Result ℤ NumError
micro_of text =
    if not (is_decimal text) then Err Malformed
    else if is_too_long text then Err TooLong
    else if nat_le MICRO_LIMIT (millionths text) then Err TooLarge
    else Ok (with_sign (is_negative text) (millionths text))
