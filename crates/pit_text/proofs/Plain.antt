-- Plain lines.
use Rattle.std.proofs.Common.{◌≡◌, ℕ, zero, suc, ◌+◌, ◌-◌, ◌<◌, ◌&&◌, ◌||◌, not, nat_eq, nat_lt, Bool, true, false, cond, Some, List, [], ◌∷◌, ◌++◌, length, take, drop, get_or, ap, subst, sym, ◌∙◌, refl, arith, length-append, append_assoc, Result, Ok, Err}
use Rattle.std.specs.List.{list_all, position, position_or_len}
use Rattle.std.specs.Char.{is_ascii_digit}
use Rattle.std.proofs.lemmas.List.{take_at, append-nil}
use Rattle.std.proofs.lemmas.List.Folds.{list_all-append}
use Rattle.std.proofs.lemmas.Bool.{cond-true, cond-false}
use Rattle.std.proofs.lemmas.Bool.Decides.{nat_tests}
use Rattle.pit_num.specs.Decimal.{are_digits, is_number, whole_of}
use Rattle.pit_num.specs.Front.{IsWholeThen, is_value}
use Rattle.pit_text.specs.Cutting.{lines_of, fields_of, is_gap, is_mark, is_comment, is_last, is_read, without_return, cut_from}
use Rattle.pit_text.specs.declared.error.Fault.{Fault}
use Rattle.pit_text.specs.declared.error.Fault.TheVariants.{CountWrong}
use Rattle.pit_text.specs.Stands.{◌>>=◌}
use Rattle.pit_text.specs.Numbers.{whole_field}
use Rattle.pit_text.specs.Precedence.{wholes_of, listed_blocks, preds_line}
use Rattle.pit_text.specs.Inside.Cutting.{FieldBegins}
use Rattle.pit_text.specs.Inside.Plain.{is_plain, DigitFirst, AreFieldsThen, IsLineThen, IsListThen, SaysPreds, ArePair}
use Rattle.pit_text.proofs.Cuts.{line_then, field_then, field_alone, gap_in_front, not_last}
use Rattle.pit_text.proofs.Ascii.{each, passed, whole_read}
use Rattle.pit_text.proofs.FirstLine.{read_line, other_end}

-- ---- lists whose elements all pass a test

-- a test that none of them passes goes past them
place_behind : (q p : ℕ → Bool) → ((c : ℕ) → q c ≡ true → p c ≡ false) → (ds xs : List ℕ) → list_all q ds ≡ true → position_or_len p (ds ++ xs) ≡ length ds + position_or_len p xs
place_behind q p fails [] xs h = omega arith
place_behind q p fails (d ∷ ds) xs h =
    let both = each (q d) (list_all q ds) h in
    ap (λ (b : Bool). cond (not b) (1 + position_or_len p (ds ++ xs)) 0) (fails d both.0) ∙ omega (arith, place_behind q p fails ds xs both.1)

passes_at : (q : ℕ → Bool) (xs : List ℕ) (k : ℕ) → list_all q xs ≡ true → k < length xs → q (get_or xs k 0) ≡ true
passes_at q [] k h within = absurd (omega (arith, within))
passes_at q (x ∷ xs) zero h within = (each (q x) (list_all q xs) h).0
passes_at q (x ∷ xs) (suc k) h within = passes_at q xs k (each (q x) (list_all q xs) h).1 (omega (arith, within))

all_weaker : (q p : ℕ → Bool) → ((c : ℕ) → q c ≡ true → p c ≡ true) → (xs : List ℕ) → list_all q xs ≡ true → list_all p xs ≡ true
all_weaker q p passes [] h = refl
all_weaker q p passes (x ∷ xs) h =
    let both = each (q x) (list_all q xs) h in
    ap (λ (b : Bool). b && list_all p xs) (passes x both.0) ∙ all_weaker q p passes xs both.1

drop_front : (front rest : List ℕ) → drop (length front) (front ++ rest) ≡ rest
drop_front [] rest = refl
drop_front (x ∷ front) rest = drop_front front rest

drop_past : (front rest : List ℕ) (b : ℕ) → drop (length front + 1) (front ++ b ∷ rest) ≡ rest
drop_past [] rest b = refl
drop_past (x ∷ front) rest b = let more : length (x ∷ front) + 1 ≡ suc (length front + 1) = omega arith in ap (λ (n : ℕ). drop n (x ∷ (front ++ b ∷ rest))) more ∙ drop_past front rest b

at_place : (p : ℕ → Bool) (xs : List ℕ) (n : ℕ) → position_or_len p xs ≡ n → n < length xs → Some n ≡ position p xs
at_place p xs n is within =
    let test : nat_lt (position_or_len p xs) (length xs) ≡ true = grind (arith, nat_tests) in
    sym (cond-true _ _ _ test ∙ ap Some is)

-- ---- bytes

digit_plain : (c : ℕ) → is_ascii_digit c ≡ true → is_plain c ≡ true
digit_plain c h = grind (arith, nat_tests)

digit_value : (c : ℕ) → is_ascii_digit c ≡ true → is_value c ≡ true
digit_value c h = grind (arith, nat_tests)

value_plain : (c : ℕ) → is_value c ≡ true → is_plain c ≡ true
value_plain c h = grind (arith, nat_tests)

value_no_gap : (c : ℕ) → is_value c ≡ true → is_gap c ≡ false
value_no_gap c h = grind (arith, nat_tests)

digit_no_gap : (c : ℕ) → is_ascii_digit c ≡ true → is_gap c ≡ false
digit_no_gap c h = grind (arith, nat_tests)

plain_no_feed : (c : ℕ) → is_plain c ≡ true → nat_eq c 10 ≡ false
plain_no_feed c h = grind (arith, nat_tests)

plain_no_return : (c : ℕ) → is_plain c ≡ true → nat_eq c 13 ≡ false
plain_no_return c h = grind (arith, nat_tests)

-- ---- numbers

-- a number is one digit or more
pub number_digits : (ds : List ℕ) (n : ℕ) → whole_of ds ≡ Ok n → (are_digits ds ≡ true) × DigitFirst ds
unfolding whole_of
number_digits [] n h = cc
number_digits (d ∷ ds) n h =
    let all = (each (nat_lt 0 (length (d ∷ ds))) (are_digits (d ∷ ds)) (passed (is_number (d ∷ ds)) _ _ n h)).1 in
    (all, (each (is_ascii_digit d) (are_digits ds) all).0)

-- ---- a plain line

no_return : (line : List ℕ) → list_all is_plain line ≡ true → DigitFirst line → without_return line ≡ line
no_return [] plain first = absurd first
no_return (b ∷ bs) plain first =
    let last : nat_eq (get_or (b ∷ bs) (length (b ∷ bs) - 1) 0) 13 ≡ false = plain_no_return _ (passes_at is_plain (b ∷ bs) (length (b ∷ bs) - 1) plain (omega arith)) in
    cond-false _ _ _ last

line_is : (line rest : List ℕ) → list_all is_plain line ≡ true → DigitFirst line → lines_of (line ++ 10 ∷ rest) ≡ line ∷ lines_of rest
line_is line rest plain first =
    let text = line ++ 10 ∷ rest in
    let at : position_or_len (λ b. nat_eq b 10) text ≡ length line = place_behind is_plain (λ b. nat_eq b 10) plain_no_feed line (10 ∷ rest) plain ∙ omega arith in
    let within : length line < length text = omega (arith, length-append line (10 ∷ rest)) in
    line_then text (length line) (at_place (λ b. nat_eq b 10) text (length line) at within)
    ∙ ap (λ (l : List ℕ). without_return l ∷ lines_of (drop (length line + 1) text)) (take_at line (10 ∷ rest) (length line) refl)
    ∙ ap (λ (l : List ℕ). l ∷ lines_of (drop (length line + 1) text)) (no_return line plain first)
    ∙ ap (λ (l : List ℕ). line ∷ lines_of l) (drop_past line rest 10)

no_comment : (line : List ℕ) → DigitFirst line → is_comment line ≡ false
no_comment [] first = absurd first
no_comment (b ∷ bs) first =
    let mark : is_mark b ≡ true = grind (arith, nat_tests) in
    let other : nat_eq b 37 ≡ false = grind (arith, nat_tests) in
    simp (mark, other)

no_end : (line : List ℕ) → DigitFirst line → is_last line ≡ false
no_end [] first = absurd first
no_end (b ∷ bs) first =
    let other : nat_eq b 69 ≡ false = grind (arith, nat_tests) in
    let at : position_or_len (λ c. not (is_gap c)) (b ∷ bs) ≡ 0 = simp (digit_no_gap b first) in
    not_last (b ∷ bs) 0 (at_place (λ c. not (is_gap c)) (b ∷ bs) 0 at (omega arith)) other

-- ---- its fields

begins : (ds rest : List ℕ) → DigitFirst ds → FieldBegins (ds ++ rest)
begins [] rest first = absurd first
begins (d ∷ ds) rest first = digit_no_gap d first

field_before : (ds line : List ℕ) → are_digits ds ≡ true → DigitFirst ds → fields_of (ds ++ 32 ∷ line) ≡ ds ∷ fields_of line
field_before ds line digits first =
    let text = ds ++ 32 ∷ line in
    let at : position_or_len is_gap text ≡ length ds = place_behind is_ascii_digit is_gap digit_no_gap ds (32 ∷ line) digits ∙ omega arith in
    let within : length ds < length text = omega (arith, length-append ds (32 ∷ line)) in
    field_then text (length ds) (begins ds (32 ∷ line) first) (at_place is_gap text (length ds) at within)
    ∙ ap (λ (f : List ℕ). f ∷ fields_of (drop (length ds) text)) (take_at ds (32 ∷ line) (length ds) refl)
    ∙ ap (λ (l : List ℕ). ds ∷ fields_of l) (drop_front ds (32 ∷ line))
    ∙ ap (λ (fs : List (List ℕ)). ds ∷ fs) (gap_in_front 32 line refl)

field_last : (ds : List ℕ) → list_all is_value ds ≡ true → 0 < length ds → fields_of ds ≡ ds ∷ []
field_last [] value some = absurd (omega (arith, some))
field_last (d ∷ ds) value some =
    let at : position_or_len is_gap (d ∷ ds) ≡ length (d ∷ ds) = ap (position_or_len is_gap) (sym (append-nil (d ∷ ds))) ∙ place_behind is_value is_gap value_no_gap (d ∷ ds) [] value ∙ omega arith in
    let test : nat_lt (position_or_len is_gap (d ∷ ds)) (length (d ∷ ds)) ≡ false = grind (arith, nat_tests) in
    let begins_here : FieldBegins (d ∷ ds) = value_no_gap d (each (is_value d) (list_all is_value ds) value).0 in
    field_alone (d ∷ ds) begins_here (sym (cond-false _ _ _ test))

-- ---- field by field

digit_first : (ds rest : List ℕ) → DigitFirst ds → DigitFirst (ds ++ rest)
digit_first [] rest first = absurd first
digit_first (d ∷ ds) rest first = first

pub fields_start : (text : List ℕ) → AreFieldsThen text [] text
fields_start text = record { front = []; whole = refl; plain = refl; cut = λ line. refl; begins = λ line first. first; inside = λ line some. absurd (omega (arith, some)) }

-- one more, with a blank behind it
pub fields_more : (text rest after : List ℕ) (fields : List (List ℕ)) (n : ℕ) → AreFieldsThen text fields rest → (next : IsWholeThen rest n 32 after) → AreFieldsThen text (fields ++ next.digits ∷ []) after
fields_more text rest after fields n are next =
    let ds : List ℕ = next.digits in
    let number = number_digits ds n next.number in
    let joined : (line : List ℕ) → (are.front ++ (ds ++ 32 ∷ [])) ++ line ≡ are.front ++ (ds ++ 32 ∷ line) =
    λ line. append_assoc are.front (ds ++ 32 ∷ []) line ∙ ap (λ (l : List ℕ). are.front ++ l) (append_assoc ds (32 ∷ []) line) in
    record {
      front = are.front ++ (ds ++ 32 ∷ []);
      whole = are.whole ∙ ap (λ (l : List ℕ). are.front ++ l) next.whole ∙ sym (joined after);
      plain =
          list_all-append is_plain are.front (ds ++ 32 ∷ [])
          ∙ ap (λ (b : Bool). b && list_all is_plain (ds ++ 32 ∷ [])) are.plain
          ∙ list_all-append is_plain ds (32 ∷ [])
          ∙ ap (λ (b : Bool). b && true) (all_weaker is_ascii_digit is_plain digit_plain ds number.0);
      cut = λ line.
          ap (λ (l : List ℕ). fields_of l) (joined line)
          ∙ are.cut (ds ++ 32 ∷ line)
          ∙ ap (λ (fs : List (List ℕ)). fields ++ fs) (field_before ds line number.0 number.1)
          ∙ sym (append_assoc fields (ds ∷ []) (fields_of line));
      begins = λ line first. subst (λ (l : List ℕ). DigitFirst l) (sym (joined line)) (are.begins (ds ++ 32 ∷ line) (digit_first ds (32 ∷ line) number.1));
      inside = λ line some. subst (λ (l : List ℕ). DigitFirst l) (sym (joined line)) (are.begins (ds ++ 32 ∷ line) (digit_first ds (32 ∷ line) number.1));
    }

-- the last, with a line feed behind it
pub line_ends : (text rest after : List ℕ) (fields : List (List ℕ)) (last : List ℕ) → (are : AreFieldsThen text fields rest) → rest ≡ last ++ 10 ∷ after → list_all is_value last ≡ true → 0 < length last
    → DigitFirst (are.front ++ last) → IsLineThen text (fields ++ last ∷ []) after
line_ends text rest after fields last are next value some first =
    let line : List ℕ = are.front ++ last in
    let plain : list_all is_plain line ≡ true = list_all-append is_plain are.front last ∙ ap (λ (b : Bool). b && list_all is_plain last) are.plain ∙ all_weaker is_value is_plain value_plain last value in
    let whole : text ≡ line ++ 10 ∷ after = are.whole ∙ ap (λ (l : List ℕ). are.front ++ l) next ∙ sym (append_assoc are.front last (10 ∷ after)) in
    record {
      line = line;
      whole = whole;
      lines = ap (λ (l : List ℕ). lines_of l) whole ∙ line_is line after plain first;
      cut = are.cut last ∙ ap (λ (fs : List (List ℕ)). fields ++ fs) (field_last last value some);
      goes_on = no_end line first;
      says = no_comment line first;
    }

pub has_digit : (ds : List ℕ) → DigitFirst ds → 0 < length ds
has_digit [] first = absurd first
has_digit (d ∷ ds) first = omega arith

pub fields_end : (text rest after : List ℕ) (fields : List (List ℕ)) (n : ℕ) → AreFieldsThen text fields rest → (next : IsWholeThen rest n 10 after) → IsLineThen text (fields ++ next.digits ∷ []) after
fields_end text rest after fields n are next =
    let ds : List ℕ = next.digits in
    let number = number_digits ds n next.number in
    line_ends text rest after fields ds are next.whole (all_weaker is_ascii_digit is_value digit_value ds number.0) (has_digit ds number.1) (are.begins ds number.1)

-- a line of two numbers
pub two_fields : (text behind rest : List ℕ) (n m : ℕ) → IsWholeThen text n 32 behind → IsWholeThen behind m 10 rest → (fields : List (List ℕ)) × IsLineThen text fields rest × ArePair fields n m
two_fields text behind rest n m one other = (
  one.digits ∷ other.digits ∷ [],
  fields_end text behind rest (one.digits ∷ []) m (fields_more text text behind [] n (fields_start text) one) other,
  record {
    first = one.digits;
    second = other.digits;
    two = refl;
    one = whole_read one.digits n one.number;
    other = whole_read other.digits m other.number;
  },
)

-- ---- lists of numbers

joined : (a : Result ℕ Fault) (b c : Result (List ℕ) Fault)
    → (a >>= (λ n. (b >>= (λ xs. c >>= (λ ys. Ok (xs ++ ys)))) >>= (λ more. Ok (n ∷ more)))) ≡ ((a >>= (λ n. b >>= (λ more. Ok (n ∷ more)))) >>= (λ xs. c >>= (λ ys. Ok (xs ++ ys))))
joined (Ok n) (Ok xs) (Ok ys) = refl
joined (Ok n) (Ok xs) (Err e) = refl
joined (Ok n) (Err e) c = refl
joined (Err e) b c = refl

unjoined : (c : Result (List ℕ) Fault) → c ≡ (c >>= (λ ys. Ok ([] ++ ys)))
unjoined (Ok ys) = refl
unjoined (Err e) = refl

wholes_append : (xs ys : List (List ℕ)) → wholes_of (xs ++ ys) ≡ (wholes_of xs >>= (λ ns. wholes_of ys >>= (λ ms. Ok (ns ++ ms))))
wholes_append [] ys = unjoined (wholes_of ys)
wholes_append (x ∷ xs) ys = ap (λ (r : Result (List ℕ) Fault). whole_field x >>= (λ n. r >>= (λ more. Ok (n ∷ more)))) (wholes_append xs ys) ∙ joined (whole_field x) (wholes_of xs) (wholes_of ys)

wholes_more : (fields : List (List ℕ)) (ns : List ℕ) (field : List ℕ) (n : ℕ) → wholes_of fields ≡ Ok ns → whole_field field ≡ Ok n → wholes_of (fields ++ field ∷ []) ≡ Ok (ns ++ n ∷ [])
wholes_more fields ns field n are is =
    wholes_append fields (field ∷ [])
    ∙ ap (λ (r : Result (List ℕ) Fault). r >>= (λ xs. wholes_of (field ∷ []) >>= (λ ys. Ok (xs ++ ys)))) are
    ∙ ap (λ (r : Result ℕ Fault). (r >>= (λ k. Ok (k ∷ []))) >>= (λ ys. Ok (ns ++ ys))) is

-- numbers of a line that were read
pub record AreRead (text rest : List ℕ) (count : ℕ) (ns : List ℕ) : Type 0 where
  pub front : (whole : List ℕ) (fields : List (List ℕ)) → AreFieldsThen whole fields text → (more : List (List ℕ)) × AreFieldsThen whole (fields ++ more) rest × (length more ≡ count) × (wholes_of more ≡ Ok ns)

pub read_none : (text : List ℕ) (k : ℕ) (ns : List ℕ) → k ≡ 0 → ns ≡ [] → AreRead text text k ns
read_none text k ns nothing none = record {
  front = λ whole fields are. (
    [],
    subst (λ (fs : List (List ℕ)). AreFieldsThen whole fs text) (sym (append-nil fields)) are,
    sym nothing,
    ap (λ (l : List ℕ). Ok l) (sym none),
  );
}

pub read_one : (text rest after : List ℕ) (count k : ℕ) (ns more : List ℕ) (n : ℕ) → AreRead text rest count ns → IsWholeThen rest n 32 after → k ≡ count + 1 → more ≡ ns ++ n ∷ [] → AreRead text after k more
read_one text rest after count k ns more n read next counts is = record {
  front = λ whole fields are.
      let was = read.front whole fields are in
      let ds : List ℕ = next.digits in (
        was.0 ++ ds ∷ [],
        subst (λ (fs : List (List ℕ)). AreFieldsThen whole fs after) (append_assoc fields was.0 (ds ∷ [])) (fields_more whole rest after (fields ++ was.0) n was.1 next),
        omega (arith, length-append was.0 (ds ∷ []), was.2, counts),
        wholes_more was.0 ns ds n was.3 (whole_read ds n next.number) ∙ ap (λ (l : List ℕ). Ok l) (sym is),
      );
}

pub read_last : (text rest after : List ℕ) (count k : ℕ) (ns more : List ℕ) (n : ℕ) → AreRead text rest count ns → IsWholeThen rest n 10 after → k ≡ count + 1 → more ≡ ns ++ n ∷ []
    → IsListThen text k more after
read_last text rest after count k ns more n read next counts is whole fields are =
    let was = read.front whole fields are in
    let ds : List ℕ = next.digits in (
      was.0 ++ ds ∷ [],
      subst (λ (fs : List (List ℕ)). IsLineThen whole fs after) (append_assoc fields was.0 (ds ∷ [])) (fields_end whole rest after (fields ++ was.0) n was.1 next),
      omega (arith, length-append was.0 (ds ∷ []), was.2, counts),
      wholes_more was.0 ns ds n was.3 (whole_read ds n next.number) ∙ ap (λ (l : List ℕ). Ok l) (sym is),
    )

-- a block, the number of its predecessors, and these
says_preds : (b k : List ℕ) (fields : List (List ℕ)) (block count : ℕ) (ns : List ℕ) → whole_of b ≡ Ok block → whole_of k ≡ Ok count → length fields ≡ count → wholes_of fields ≡ Ok ns → preds_line (b ∷ k ∷ fields) ≡ Ok (block, ns)
unfolding preds_line
says_preds b k fields block count ns one other long are =
    let same : nat_eq count (length fields) ≡ true = grind (arith, nat_tests) in
    ap (λ (r : Result ℕ Fault). r >>= (λ x. whole_field k >>= (λ c. listed_blocks c fields >>= (λ listed. Ok (x, listed))))) (whole_read b block one)
    ∙ ap (λ (r : Result ℕ Fault). r >>= (λ c. listed_blocks c fields >>= (λ listed. Ok (block, listed)))) (whole_read k count other)
    ∙ ap (λ (t : Bool). cond t (wholes_of fields) (Err CountWrong) >>= (λ listed. Ok (block, listed))) same
    ∙ ap (λ (r : Result (List ℕ) Fault). r >>= (λ listed. Ok (block, listed))) are

pub no_preds : (text behind rest : List ℕ) (block k : ℕ) (ns : List ℕ) → IsWholeThen text block 32 behind → IsWholeThen behind k 10 rest → k ≡ 0 → ns ≡ [] → SaysPreds text block ns rest
no_preds text behind rest block k ns one other nothing none = (
  one.digits,
  other.digits ∷ [],
  fields_end text behind rest (one.digits ∷ []) k (fields_more text text behind [] block (fields_start text) one) other,
  says_preds one.digits other.digits [] block k ns one.number other.number (sym nothing) (ap (λ (l : List ℕ). Ok l) (sym none)),
)

pub some_preds : (text behind next rest : List ℕ) (block count : ℕ) (ns : List ℕ) → IsWholeThen text block 32 behind → IsWholeThen behind count 32 next → IsListThen next count ns rest → SaysPreds text block ns rest
some_preds text behind next rest block count ns one other listed =
    let front = fields_more text behind next (one.digits ∷ []) count (fields_more text text behind [] block (fields_start text) one) other in
    let said = listed text (one.digits ∷ other.digits ∷ []) front in (
      one.digits,
      other.digits ∷ said.0,
      said.1,
      says_preds one.digits other.digits said.0 block count ns one.number other.number said.2 said.3,
    )

-- ---- what it adds to the lines that are read

-- the line, by its length
pub line_seen : (text rest : List ℕ) (fields : List (List ℕ)) → IsLineThen text fields rest → fields_of (take (length text - length rest - 1) text) ≡ fields
line_seen text rest fields is =
    let long : length text ≡ length is.line + (length rest + 1) = ap (λ (l : List ℕ). length l) is.whole ∙ length-append is.line (10 ∷ rest) ∙ omega arith in
    ap (λ (n : ℕ). fields_of (take n text)) (omega (arith, long))
    ∙ ap (λ (l : List ℕ). fields_of (take (length is.line) l)) is.whole
    ∙ ap (λ (l : List ℕ). fields_of l) (take_at is.line (10 ∷ rest) (length is.line) refl)
    ∙ is.cut

pub plain_cut : (text rest : List ℕ) (field : List ℕ) (fields seen : List (List ℕ)) (number : ℕ) (ended : Bool) → ended ≡ false → IsLineThen text (field ∷ fields) rest → seen ≡ field ∷ fields
    → cond ended [] (cut_from number (lines_of text)) ≡ record { number = number; fields = seen } ∷ cond ended [] (cut_from (number + 1) (lines_of rest))
plain_cut text rest field fields seen number true goes_on is same = cc
plain_cut text rest field fields seen number false goes_on is same =
    let some : not (nat_eq (length (field ∷ fields)) 0) ≡ true = grind (arith, nat_tests) in
    let reads : is_read (number, is.line) ≡ true =
    ap (λ (b : Bool). not (b || nat_eq (length (fields_of is.line)) 0)) is.says ∙ ap (λ (fs : List (List ℕ)). not (nat_eq (length fs) 0)) is.cut ∙ some in
    ap (λ (ls : List (List ℕ)). cut_from number ls) is.lines
    ∙ read_line number is.line (lines_of rest) is.goes_on reads
    ∙ ap (λ (fs : List (List ℕ)). record { number = number; fields = fs } ∷ cut_from (number + 1) (lines_of rest)) (is.cut ∙ sym same)

-- a line of two numbers is cut into them
pub two_cut : (number n m : ℕ) (text behind rest : List ℕ) → IsWholeThen text n 32 behind → IsWholeThen behind m 10 rest
    → (first : List ℕ) × (second : List ℕ) × (whole_field first ≡ Ok n) × (whole_field second ≡ Ok m)
    × (cut_from number (lines_of text) ≡ record { number = number; fields = first ∷ second ∷ [] } ∷ cut_from (number + 1) (lines_of rest))
two_cut number n m text behind rest one other =
    let two = two_fields text behind rest n m one other in
    let is : IsLineThen text (two.2.first ∷ two.2.second ∷ []) rest = subst (λ (fields : List (List ℕ)). IsLineThen text fields rest) two.2.two two.1 in (
      two.2.first,
      two.2.second,
      two.2.one,
      two.2.other,
      plain_cut text rest two.2.first (two.2.second ∷ []) (two.2.first ∷ two.2.second ∷ []) number false refl is refl,
    )

pub plain_end : (text rest : List ℕ) (fields : List (List ℕ)) (number : ℕ) (ended : Bool) → ended ≡ false → IsLineThen text fields rest
    → cond ended (number + 1) (number + 1 + position_or_len is_last (lines_of rest)) ≡ cond ended number (number + position_or_len is_last (lines_of text))
plain_end text rest fields number true goes_on is = cc
plain_end text rest fields number false goes_on is =
    let more : position_or_len is_last (lines_of text) ≡ position_or_len is_last (lines_of rest) + 1 = ap (λ (ls : List (List ℕ)). position_or_len is_last ls) is.lines ∙ other_end is.line (lines_of rest) is.goes_on in
    omega (arith, more)
