-- The lines of a text that was written, and their fields.
use Rattle.std.proofs.Common.{◌≡◌, ℕ, ◌-◌, ◌<◌, ◌≤◌, ◌^◌, ◌+◌, ◌==◌, ◌&&◌, nat_lt, nat_le, Bool, true, false, cond, List, [], ◌∷◌, ◌++◌, length, take, map, filter, get_or, decimal, Ok, refl, ap, ◌∙◌, sym, suc, arith, lit<, append_assoc}
use Rattle.std.specs.Prelude.{All}
use Rattle.std.specs.List.{slice_split, onto_first}
use Rattle.std.specs.Char.{is_ascii_digit}
use Rattle.std.specs.Str.Parse.{AllDigits, digits_value}
use Rattle.std.proofs.lemmas.Bool.{cond-false, ne_eqb}
use Rattle.std.proofs.lemmas.Bool.Decides.{nat_tests}
use Rattle.std.proofs.lemmas.List.Elements.{All-nil, All-cons, All-head, All-tail, All-weaker}
use Rattle.std.proofs.lemmas.List.Splits.{slice_split_at}
use Rattle.std.proofs.lemmas.Str.Parse.{digit_from_value}
use Rattle.std.proofs.lemmas.Fmt.{decimal_is_IsNumeral, decimal_nonempty, length-decimal-le}
use Rattle.pit_num.specs.declared.parse.TheConstants.{DIGITS_MAX}
use Rattle.pit_num.specs.Decimal.{are_digits, is_number, whole_of}
use Rattle.pit_num.specs.Front.{IsWholeThen}
use Rattle.pit_num.specs.Lines.{without_empty_last}
use Rattle.pit_text.specs.Cutting.{without_return, lines_of, is_gap, fields_of, begins_with_eof, is_last, cut_from}
use Rattle.pit_text.specs.Numbers.{whole_field}
use Rattle.pit_text.specs.SolutionText.{line_text}
use Rattle.pit_text.proofs.CallerLemmas.{has_parts, skipped_line, two_cut}
use Rattle.pit_base.specs.Marks.{is_feed}

-- ---- bytes

abbrev pub IsDigit : ℕ → Type 0
IsDigit c = (48 ≤ c) × (c ≤ 57)

abbrev pub AreDigits : List ℕ → Type 0
AreDigits ds = All IsDigit ds

digits-are : (ds : List ℕ) → AllDigits 10 ds → AreDigits ds
digits-are [] all = All-nil IsDigit
digits-are (d ∷ ds) all = All-cons IsDigit d ds (digit_from_value d all.0) (digits-are ds all.1)

pub decimal-digits : (n : ℕ) → n < 2 ^ 64 → AreDigits (decimal n)
decimal-digits n few = digits-are (decimal n) (decimal_is_IsNumeral n few).0.1

-- above a line feed and a carriage return
abbrev pub IsInLine : ℕ → Type 0
IsInLine c = 14 ≤ c

pub digits-in_line : (ds : List ℕ) → AreDigits ds → All IsInLine ds
digits-in_line ds digits = All-weaker IsDigit IsInLine (λ c is. omega (arith, is.0)) ds digits

abbrev pub HasNoFeed : List ℕ → Type 0
HasNoFeed line = All (λ b. is_feed b ≡ false) line

pub no-feed : (line : List ℕ) → All IsInLine line → HasNoFeed line
no-feed line all = All-weaker IsInLine (λ b. is_feed b ≡ false) (λ b is. ne_eqb b 10 (λ same. omega (arith, is, same))) line all

pub no-return : (line : List ℕ) → All IsInLine line → 0 < length line → without_return line ≡ line
no-return line all some =
    let last : IsInLine (get_or line (length line - 1) 0) = all (length line - 1) 0 (omega (arith, some)) in
    cond-false _ _ _ (ne_eqb (get_or line (length line - 1) 0) 13 (λ same. omega (arith, last, same)))

-- ---- lines

not-last : (line part : List ℕ) (parts more : List (List ℕ)) → parts ≡ part ∷ more → without_empty_last (line ∷ parts) ≡ line ∷ without_empty_last parts
not-last line part parts more is =
    ap (λ (ps : List (List ℕ)). without_empty_last (line ∷ ps)) is ∙ sym (ap (λ (ps : List (List ℕ)). line ∷ without_empty_last ps) is)

-- a line, and the lines behind its line feed
lines_of-more : (line rest : List ℕ) → HasNoFeed line → lines_of (line ++ 10 ∷ rest) ≡ without_return line ∷ lines_of rest
unfolding lines_of
lines_of-more line rest none =
    let parts = has_parts is_feed rest in
    ap (λ (ps : List (List ℕ)). map without_return (without_empty_last ps)) (slice_split_at is_feed line 10 rest none refl)
    ∙ ap (λ (ls : List (List ℕ)). map without_return ls) (not-last line parts.0 (slice_split is_feed rest) parts.1 parts.2)

-- ---- a comment

without-return-front : (words : List ℕ) → (more : List ℕ) × (without_return (37 ∷ words) ≡ 37 ∷ more)
without-return-front [] = ([], refl)
without-return-front (w ∷ ws) = by (get_or (37 ∷ w ∷ ws) (length (37 ∷ w ∷ ws) - 1) 0 == 13)
  where
    by : (b : Bool) → (more : List ℕ) × (cond b (take (length (37 ∷ w ∷ ws) - 1) (37 ∷ w ∷ ws)) (37 ∷ w ∷ ws) ≡ 37 ∷ more)
    by true = let len : length (37 ∷ w ∷ ws) - 1 ≡ suc (length ws) = omega arith in (take (length ws) (w ∷ ws), ap (λ (n : ℕ). take n (37 ∷ w ∷ ws)) len)
    by false = (w ∷ ws, refl)

-- a line that begins with `%` isn't the last
percent-no-end : (more : List ℕ) → is_last (37 ∷ more) ≡ false
unfolding fields_of
percent-no-end more =
    let parts = has_parts is_gap more in
    ap (λ (ps : List (List ℕ)). begins_with_eof (filter (λ field. nat_lt 0 (length field)) (onto_first 37 ps))) parts.2 ∙ front parts.0 parts.1
  where
    front : (part : List ℕ) (parts : List (List ℕ)) → begins_with_eof (filter (λ field. nat_lt 0 (length field)) (onto_first 37 (part ∷ parts))) ≡ false
    front part parts = let some : nat_lt 0 (length (37 ∷ part)) ≡ true = grind (arith, nat_tests) in simp some

pub comment-cut : (number : ℕ) (words rest : List ℕ) → HasNoFeed words → cut_from number (lines_of (37 ∷ (words ++ 10 ∷ rest))) ≡ cut_from (number + 1) (lines_of rest)
comment-cut number words rest none =
    let line = without-return-front words in
    ap (λ (ls : List (List ℕ)). cut_from number ls) (lines_of-more (37 ∷ words) rest (All-cons (λ b. is_feed b ≡ false) 37 words refl none))
    ∙ (ap (λ (l : List ℕ). cut_from number (l ∷ lines_of rest)) line.1 ∙ skipped_line number (37 ∷ line.0) (lines_of rest) (percent-no-end line.0) refl)

-- ---- two numbers

digits-pass : (ds : List ℕ) → AreDigits ds → are_digits ds ≡ true
digits-pass [] digits = refl
digits-pass (d ∷ ds) digits =
    let first : IsDigit d = All-head IsDigit d ds digits in
    let digit : is_ascii_digit d ≡ true = grind (arith, nat_tests) in
    ap (λ (b : Bool). b && are_digits ds) digit ∙ digits-pass ds (All-tail IsDigit d ds digits)

whole-decimal : (n : ℕ) → n < 2 ^ 32 → whole_of (decimal n) ≡ Ok n
unfolding whole_of
whole-decimal n few =
    let many : n < 2 ^ 64 = omega (arith, few) in
    let below : n < 10 ^ 10 = omega (arith, few) in
    let short : length (decimal n) ≤ 10 = length-decimal-le 10 n (lit< tt) below many in
    let value : digits_value 10 (decimal n) ≡ n = (decimal_is_IsNumeral n many).1 in
    let some : nat_lt 0 (length (decimal n)) ≡ true = grind (arith, nat_tests, decimal_nonempty n many) in
    let number : is_number (decimal n) ≡ true = ap (λ (b : Bool). b && are_digits (decimal n)) some ∙ digits-pass (decimal n) (decimal-digits n many) in
    let fits : nat_lt DIGITS_MAX (length (decimal n)) ≡ false = grind (arith, nat_tests, short) in
    let small : nat_le (2 ^ 32) n ≡ false = grind (arith, nat_tests, few) in
    simp (number, fits, value, small)

-- a line of a solution is cut into its two numbers
pub line-cut : (number b t : ℕ) (rest : List ℕ) → b < 2 ^ 32 → t < 2 ^ 32 → (first : List ℕ) × (second : List ℕ) × (whole_field first ≡ Ok b) × (whole_field second ≡ Ok t)
    × (cut_from number (lines_of (line_text (b, t) ++ rest)) ≡ record { number = number; fields = first ∷ second ∷ [] } ∷ cut_from (number + 1) (lines_of rest))
line-cut number b t rest few short =
    let text : List ℕ = line_text (b, t) ++ rest in
    let behind : List ℕ = decimal t ++ 10 ∷ rest in
    let one : IsWholeThen text b 32 behind = record {
      digits = decimal b;
      whole = append_assoc (decimal b) (32 ∷ (decimal t ++ 10 ∷ [])) rest ∙ ap (λ (xs : List ℕ). decimal b ++ 32 ∷ xs) (append_assoc (decimal t) (10 ∷ []) rest);
      number = whole-decimal b few;
    } in
    let other : IsWholeThen behind t 10 rest = record { digits = decimal t; whole = refl; number = whole-decimal t short } in
    two_cut number b t text behind rest one other
