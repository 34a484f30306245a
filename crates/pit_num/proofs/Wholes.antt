-- Texts of digits as whole numbers.
use Rattle.std.proofs.Common.{◌≡◌, ℕ, ◌<◌, ◌≤◌, ◌^◌, true, List, length, arith, Ok, Err, ◌∙◌, ap, sym, take}
use Rattle.std.specs.List.{prefix_len}
use Rattle.std.specs.Char.{is_ascii_digit}
use Rattle.std.specs.Str.Parse.{digits_value}
use Rattle.std.proofs.lemmas.Bool.Decides.{nat_tests}
use Rattle.pit_num.specs.declared.parse.NumError.TheVariants.{TooLarge}
use Rattle.pit_num.specs.Decimal.{are_digits, whole_of}
use Rattle.pit_num.proofs.Leading.{digits_to_end, front_is_all}

whole_small : (text : List ℕ) → are_digits text ≡ true → 0 < length text → length text ≤ 38 → digits_value 10 text < 2 ^ 32 → whole_of text ≡ Ok (digits_value 10 text)
unfolding whole_of
whole_small text digits some short small = grind (arith, nat_tests)

whole_large : (text : List ℕ) → are_digits text ≡ true → 0 < length text → length text ≤ 38 → 2 ^ 32 ≤ digits_value 10 text → whole_of text ≡ Err TooLarge
unfolding whole_of
whole_large text digits some short large = grind (arith, nat_tests)

-- a text whose front of digits is the whole text
pub front_value : (text : List ℕ) (n count : ℕ) → count ≡ prefix_len is_ascii_digit text → n ≡ digits_value 10 (take count text) → length text ≤ count → n ≡ digits_value 10 text
front_value text n count is value long = value ∙ ap (λ (ds : List ℕ). digits_value 10 ds) (front_is_all text count is long)

pub front_small : (text : List ℕ) (n count : ℕ) → count ≡ prefix_len is_ascii_digit text → n ≡ digits_value 10 (take count text) → length text ≤ count → 0 < length text → length text ≤ 38 → n < 2 ^ 32 → whole_of text ≡ Ok n
front_small text n count is value long some short small =
    let digits : n ≡ digits_value 10 text = front_value text n count is value long in
    whole_small text (digits_to_end text (omega arith)) some short (omega arith) ∙ ap (λ (k : ℕ). Ok k) (sym digits)

pub front_large : (text : List ℕ) (n count : ℕ) → count ≡ prefix_len is_ascii_digit text → n ≡ digits_value 10 (take count text) → length text ≤ count → 0 < length text → length text ≤ 38 → 2 ^ 32 ≤ n → whole_of text ≡ Err TooLarge
front_large text n count is value long some short large =
    let digits : n ≡ digits_value 10 text = front_value text n count is value long in
    whole_large text (digits_to_end text (omega arith)) some short (omega arith)
