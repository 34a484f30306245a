-- Plain lines of sections.
use Rattle.std.proofs.Common.{◌≡◌, ℕ, ℤ, ◌<◌, nat_eq, false, None, List, [], ◌∷◌, ◌++◌, length, ap, ◌∙◌, refl, arith, Result, Ok}
use Rattle.std.proofs.lemmas.Bool.Decides.{nat_tests}
use Rattle.pit_num.specs.Decimal.{micro_of}
use Rattle.pit_text.specs.declared.error.Fault.{Fault}
use Rattle.pit_text.specs.declared.model.section.Section.TheVariants.{Objective, Coefficients}
use Rattle.pit_text.specs.declared.model.section_fact.SectionFact.TheVariants.{Profit, Coefficient}
use Rattle.pit_text.specs.Stands.{◌>>=◌}
use Rattle.pit_text.specs.Numbers.{whole_field, decimal_field}
use Rattle.pit_text.specs.SectionFacts.{profit_line, coefficient_line}
use Rattle.pit_text.specs.Model.{section_of}
use Rattle.pit_num.specs.Front.{IsWholeThen, IsMicroThen}
use Rattle.pit_text.specs.Inside.Plain.{DigitFirst, AreFieldsThen, IsLineThen}
use Rattle.pit_text.specs.Inside.PlainFacts.{SaysFact}
use Rattle.pit_text.proofs.Ascii.{whole_read, decimal_read}
use Rattle.pit_text.proofs.Plain.{number_digits, fields_start, fields_more, line_ends}

-- ---- the last field

value_some : (field : List ℕ) (v : ℤ) → micro_of field ≡ Ok v → 0 < length field
unfolding micro_of
value_some [] v h = cc
value_some (b ∷ bs) v h = omega arith

-- ---- no section begins with a digit

no_section : (ds : List ℕ) → DigitFirst ds → section_of ds ≡ None
unfolding section_of
no_section [] first = absurd first
no_section (d ∷ ds) first =
    let o : nat_eq d 79 ≡ false = grind (arith, nat_tests) in
    let r : nat_eq d 82 ≡ false = grind (arith, nat_tests) in
    simp (o, r)

-- ---- a line that says something

profit_is : (b v : List ℕ) (block : ℕ) (value : ℤ) → whole_field b ≡ Ok block → decimal_field v ≡ Ok value → profit_line (b ∷ v ∷ []) ≡ Ok (Profit block value)
unfolding profit_line
profit_is b v block value one is =
    ap (λ (r : Result ℕ Fault). r >>= (λ n. decimal_field v >>= (λ x. Ok (Profit n x)))) one
    ∙ ap (λ (r : Result ℤ Fault). r >>= (λ x. Ok (Profit block x))) is

coefficient_is : (b k v : List ℕ) (block resource : ℕ) (value : ℤ) → whole_field b ≡ Ok block → whole_field k ≡ Ok resource → decimal_field v ≡ Ok value
    → coefficient_line (b ∷ k ∷ v ∷ []) ≡ Ok (Coefficient block resource value)
unfolding coefficient_line
coefficient_is b k v block resource value one other is =
    ap (λ (r : Result ℕ Fault). r >>= (λ n. whole_field k >>= (λ m. decimal_field v >>= (λ x. Ok (Coefficient n m x))))) one
    ∙ ap (λ (r : Result ℕ Fault). r >>= (λ m. decimal_field v >>= (λ x. Ok (Coefficient block m x)))) other
    ∙ ap (λ (r : Result ℤ Fault). r >>= (λ x. Ok (Coefficient block resource x))) is

value_ends : (text rest after : List ℕ) (fields : List (List ℕ)) (v : ℤ) → 0 < length fields → (are : AreFieldsThen text fields rest) → (last : IsMicroThen rest v 10 after) → IsLineThen text (fields ++ last.field ∷ []) after
value_ends text rest after fields v some are last =
    line_ends text rest after fields last.field are last.whole last.bytes (value_some last.field v last.number) (are.inside last.field some)

pub profit_said : (text behind rest : List ℕ) (block : ℕ) (value : ℤ) → IsWholeThen text block 32 behind → IsMicroThen behind value 10 rest → SaysFact Objective text (Profit block value) rest
profit_said text behind rest block value one last = (
  one.digits,
  last.field ∷ [],
  value_ends text behind rest (one.digits ∷ []) value (omega arith) (fields_more text text behind [] block (fields_start text) one) last,
  record {
    first = one.digits;
    more = last.field ∷ [];
    some = refl;
    inside = no_section one.digits (number_digits one.digits block one.number).1;
    says = profit_is one.digits last.field block value (whole_read one.digits block one.number) (decimal_read last.field value last.number);
  },
)

pub coefficient_said : (text behind next rest : List ℕ) (block resource : ℕ) (value : ℤ) → IsWholeThen text block 32 behind → IsWholeThen behind resource 32 next → IsMicroThen next value 10 rest
    → SaysFact Coefficients text (Coefficient block resource value) rest
coefficient_said text behind next rest block resource value one other last = (
  one.digits,
  other.digits ∷ last.field ∷ [],
  value_ends text next rest (one.digits ∷ other.digits ∷ []) value (omega arith)
      (fields_more text behind next (one.digits ∷ []) resource (fields_more text text behind [] block (fields_start text) one) other) last,
  record {
    first = one.digits;
    more = other.digits ∷ last.field ∷ [];
    some = refl;
    inside = no_section one.digits (number_digits one.digits block one.number).1;
    says = coefficient_is one.digits other.digits last.field block resource value (whole_read one.digits block one.number) (whole_read other.digits resource other.number) (decimal_read last.field value last.number);
  },
)
