-- What a draft keeps as the facts grow.
use Rattle.std.proofs.Common.{◌≡◌, ◌≢◌, ℕ, ℤ, zero, suc, ◌≤◌, ◌<◌, nat_eq, Bool, true, false, ◌||◌, ◌⊎◌, inl, inr, List, [], ◌∷◌, ◌++◌, length, set, Option, Some, None, is_none, unwrap_or, Result, Ok, Err, pos, negsuc, ap, sym, ◌∙◌, refl, arith, subst, slice_index_or, find}
use Rattle.std.specs.List.{cons_option, list_any}
use Rattle.std.proofs.lemmas.List.{append-nil, get_or-set_same, get_or-set_other}
use Rattle.std.proofs.lemmas.List.Folds.{list_any-append}
use Rattle.std.proofs.Math.ListN.{length-set}
use Rattle.std.proofs.Math.Bool.{or-false}
use Rattle.std.proofs.lemmas.Bool.{cases_eq}
use Rattle.std.proofs.lemmas.Bool.Decides.{nat_tests}
use Rattle.pit_num.specs.declared.limits.TheConstants.{PERIODS_MAX, RATE_MAX}
use Rattle.pit_model.specs.declared.counts.TheConstants.{BLOCKS_MAX, RESOURCES_MAX}
use Rattle.pit_text.specs.declared.error.Fault.{Fault}
use Rattle.pit_text.specs.declared.model.key.Key.{Key}
use Rattle.pit_text.specs.declared.model.key.Key.TheVariants.{Kind, Blocks, Periods, Resources, Rate, Destinations, Generals}
use Rattle.pit_text.specs.declared.model.section.Section.{Section}
use Rattle.pit_text.specs.declared.model.section.Section.TheVariants.{Objective, Coefficients, Limits}
use Rattle.pit_text.specs.declared.model.draft.Draft.{Draft}
use Rattle.pit_text.specs.Numbers.{whole_field, decimal_field}
use Rattle.pit_text.specs.Header.{value_of_key, number_in_range, supported_number, kind_of, rate_of}
use Rattle.pit_text.specs.Keys.{key_number, section_number, same_section}
use Rattle.pit_text.specs.Model.{Fact, header, section, header_value, value_in_fact, sections, section_in_fact, last_of, missing_key}
use Rattle.pit_text.specs.Inside.Draft.{IsNumberOf, IsDraft, HasHeader, number_at, missing_key_in}
use Rattle.pit_text.proofs.Facts.{header_value-more, same_value, sections-more, last_of-push}

pub missing_key-draft : (facts : List Fact) (draft : Draft) → IsDraft facts draft → missing_key facts ≡ missing_key_in draft
missing_key-draft facts draft is = simp is.values

-- ---- numbers of keys

-- keys with one number are one key
key_at : ℕ → Key
key_at zero = Kind
key_at (suc zero) = Blocks
key_at (suc (suc zero)) = Periods
key_at (suc (suc (suc zero))) = Resources
key_at (suc (suc (suc (suc zero)))) = Rate
key_at (suc (suc (suc (suc (suc zero))))) = Destinations
key_at (suc (suc (suc (suc (suc (suc n)))))) = Generals

key_at-number : (key : Key) → key_at (key_number key) ≡ key
unfolding key_at
key_at-number Kind = refl
key_at-number Blocks = refl
key_at-number Periods = refl
key_at-number Resources = refl
key_at-number Rate = refl
key_at-number Destinations = refl
key_at-number Generals = refl

same_key : (key other : Key) → key_number key ≡ key_number other → key ≡ other
same_key key other same = sym (key_at-number key) ∙ ap key_at same ∙ key_at-number other

key_number-lt : (key : Key) → key_number key < 7
key_number-lt Kind = omega arith
key_number-lt Blocks = omega arith
key_number-lt Periods = omega arith
key_number-lt Resources = omega arith
key_number-lt Rate = omega arith
key_number-lt Destinations = omega arith
key_number-lt Generals = omega arith

section_number-lt : (s : Section) → section_number s < 3
section_number-lt Objective = omega arith
section_number-lt Coefficients = omega arith
section_number-lt Limits = omega arith

-- ---- the numbers that a value may give

number_in_range-range : (low high : ℕ) (key : Key) (r : Result ℕ Fault) (n : ℕ) → number_in_range low high key r ≡ Ok n → (low ≤ n) × (n ≤ high)
number_in_range-range low high key (Ok m) n is = grind (arith, nat_tests)
number_in_range-range low high key (Err e) n is = cc

supported_number-one : (wanted : ℕ) (key : Key) (r : Result ℕ Fault) (n : ℕ) → supported_number wanted key r ≡ Ok n → n ≡ wanted
supported_number-one wanted key (Ok m) n is = grind (arith, nat_tests)
supported_number-one wanted key (Err e) n is = cc

rate-small : (r : Result ℤ Fault) (n : ℕ) → rate_of r ≡ Ok n → n ≤ RATE_MAX
rate-small (Ok (pos m)) n is = grind (arith, nat_tests)
rate-small (Ok (negsuc m)) n is = cc
rate-small (Err e) n is = cc

kind-zero : (value : List ℕ) (n : ℕ) → kind_of value ≡ Ok n → n ≡ 0
kind-zero value n is = grind (arith, nat_tests)

pub value-range : (key : Key) (value : List ℕ) (n : ℕ) → value_of_key key value ≡ Ok n → IsNumberOf key n
unfolding value_of_key
value-range Kind value n is = kind-zero value n is
value-range Blocks value n is = number_in_range-range 1 BLOCKS_MAX Blocks (whole_field value) n is
value-range Periods value n is = number_in_range-range 1 PERIODS_MAX Periods (whole_field value) n is
value-range Resources value n is = (number_in_range-range 0 RESOURCES_MAX Resources (whole_field value) n is).1
value-range Rate value n is = rate-small (decimal_field value) n is
value-range Destinations value n is = supported_number-one 1 Destinations (whole_field value) n is
value-range Generals value n is = supported_number-one 0 Generals (whole_field value) n is

-- ---- one more fact

-- one that says nothing of the header and of sections
pub draft-same : (facts : List Fact) (fact : Fact) (draft : Draft) → ((key : Key) → value_in_fact key fact ≡ None) → section_in_fact fact ≡ None → IsDraft facts draft → IsDraft (facts ++ fact ∷ []) draft
draft-same facts fact draft no_value no_section is =
    let same : sections (facts ++ fact ∷ []) ≡ sections facts =
    sections-more facts fact ∙ ap (λ o. sections facts ++ cons_option o []) no_section ∙ append-nil (sections facts) in
    record {
      seven = is.seven;
      three = is.three;
      values = λ key. same_value facts fact key (no_value key) ∙ is.values key;
      numbers = λ key n e. is.numbers key n (sym (same_value facts fact key (no_value key)) ∙ e);
      section = ap (λ (ss : List Section). last_of ss) same ∙ is.section;
      seen = λ s. ap (λ (ss : List Section). list_any (same_section s) ss) same ∙ is.seen s;
    }

seen_by : (seen : List Bool) (s other : Section) (before : Bool) → length seen ≡ 3 → before ≡ slice_index_or seen (section_number other) false
    → (section_number other ≡ section_number s) ⊎ (section_number other ≢ section_number s)
    → (before || same_section other s) ≡ slice_index_or (set seen (section_number s) true) (section_number other) false
seen_by seen s other before three is (inl same) =
    let within : section_number s < length seen = omega (arith, three, section_number-lt s) in
    let test : nat_eq (section_number other) (section_number s) ≡ true = grind (arith, nat_tests) in
    let now : slice_index_or (set seen (section_number s) true) (section_number other) false ≡ true =
    ap (λ (n : ℕ). slice_index_or (set seen (section_number s) true) n false) same ∙ get_or-set_same seen (section_number s) true false within in
    rw test (or_true before ∙ sym now)
  where
    or_true : (b : Bool) → (b || true) ≡ true
    or_true true = refl
    or_true false = refl
seen_by seen s other before three is (inr differs) =
    let test : nat_eq (section_number other) (section_number s) ≡ false = grind (arith, nat_tests) in
    rw test (or-false before ∙ is ∙ sym (get_or-set_other seen (section_number s) (section_number other) true false differs))

pub draft-section : (facts : List Fact) (s : Section) (draft : Draft) → IsDraft facts draft → IsDraft (facts ++ section s ∷ []) (record draft { section = Some s; seen = set draft.seen (section_number s) true })
draft-section facts s draft is =
    let more : sections (facts ++ section s ∷ []) ≡ sections facts ++ s ∷ [] = sections-more facts (section s) in
    record {
      seven = is.seven;
      three = length-set draft.seen (section_number s) true ∙ is.three;
      values = λ key. same_value facts (section s) key refl ∙ is.values key;
      numbers = λ key n e. is.numbers key n (sym (same_value facts (section s) key refl) ∙ e);
      section = ap (λ (ss : List Section). last_of ss) more ∙ last_of-push (sections facts) s;
      seen = λ other.
          ap (λ (ss : List Section). list_any (same_section other) ss) more
          ∙ list_any-append (same_section other) (sections facts) (s ∷ [])
          ∙ ap (λ (b : Bool). list_any (same_section other) (sections facts) || b) (or-false (same_section other s))
          ∙ seen_by draft.seen s other (list_any (same_section other) (sections facts)) is.three (is.seen other) (cases_eq (section_number other) (section_number s));
    }

value_here : (facts : List Fact) (key other : Key) (n : ℕ) → header_value facts other ≡ None → key_number other ≡ key_number key → header_value (facts ++ header key n ∷ []) other ≡ Some n
value_here facts key other n none same =
    let test : nat_eq (key_number key) (key_number other) ≡ true = grind (arith, nat_tests) in
    header_value-more facts (header key n) other ∙ simp (none, test)

value_elsewhere : (facts : List Fact) (key other : Key) (n : ℕ) → key_number other ≢ key_number key → header_value (facts ++ header key n ∷ []) other ≡ header_value facts other
value_elsewhere facts key other n differs =
    let test : nat_eq (key_number key) (key_number other) ≡ false = grind (arith, nat_tests) in
    same_value facts (header key n) other (simp test)

pub draft-header : (facts : List Fact) (key : Key) (n : ℕ) (draft : Draft) → header_value facts key ≡ None → IsNumberOf key n → IsDraft facts draft
    → IsDraft (facts ++ header key n ∷ []) (record draft { values = set draft.values (key_number key) (Some n) })
draft-header facts key n draft none number is =
    let same : sections (facts ++ header key n ∷ []) ≡ sections facts = sections-more facts (header key n) ∙ append-nil (sections facts) in
    record {
      seven = length-set draft.values (key_number key) (Some n) ∙ is.seven;
      three = is.three;
      values = λ other. value_at other (cases_eq (key_number other) (key_number key));
      numbers = λ other m e. number_of_it other m (cases_eq (key_number other) (key_number key)) e;
      section = ap (λ (ss : List Section). last_of ss) same ∙ is.section;
      seen = λ s. ap (λ (ss : List Section). list_any (same_section s) ss) same ∙ is.seen s;
    }
  where
    none_at : (other : Key) → key_number other ≡ key_number key → header_value facts other ≡ None
    none_at other same = ap (λ (k : Key). header_value facts k) (same_key other key same) ∙ none

    value_at : (other : Key) → (key_number other ≡ key_number key) ⊎ (key_number other ≢ key_number key)
        → header_value (facts ++ header key n ∷ []) other ≡ slice_index_or (set draft.values (key_number key) (Some n)) (key_number other) None
    value_at other (inl same) =
        let within : key_number key < length draft.values = omega (arith, is.seven, key_number-lt key) in
        value_here facts key other n (none_at other same) same
        ∙ sym (ap (λ (k : ℕ). slice_index_or (set draft.values (key_number key) (Some n)) k None) same ∙ get_or-set_same draft.values (key_number key) (Some n) None within)
    value_at other (inr differs) =
        value_elsewhere facts key other n differs ∙ is.values other ∙ sym (get_or-set_other draft.values (key_number key) (key_number other) (Some n) None differs)

    number_of_it : (other : Key) (m : ℕ) → (key_number other ≡ key_number key) ⊎ (key_number other ≢ key_number key) → header_value (facts ++ header key n ∷ []) other ≡ Some m → IsNumberOf other m
    number_of_it other m (inl same) e =
        let is_n : n ≡ m = (let both : Some n ≡ Some m = sym (value_here facts key other n (none_at other same) same) ∙ e in cc) in
        subst (λ (k : Key). IsNumberOf k m) (sym (same_key other key same)) (subst (λ (k : ℕ). IsNumberOf key k) is_n number)
    number_of_it other m (inr differs) e = is.numbers other m (sym (value_elsewhere facts key other n differs) ∙ e)

-- ---- the whole header

present : (facts : List Fact) (draft : Draft) (key : Key) (o : Option ℕ) → IsDraft facts draft → slice_index_or draft.values (key_number key) None ≡ o → is_none o ≡ false → IsNumberOf key (number_at draft key)
present facts draft key (Some n) is value some =
    subst (λ (o : Option ℕ). IsNumberOf key (unwrap_or o 0)) (sym value) (is.numbers key n (is.values key ∙ value))
present facts draft key None is value some = let clash : true ≡ false = some in cc

found_none : {X : Type 0} (p : X → Bool) (x : X) (xs : List X) (b : Bool) → p x ≡ b → find p (x ∷ xs) ≡ None → (p x ≡ false) × (find p xs ≡ None)
found_none p x xs true e none = let found : find p (x ∷ xs) ≡ Some x = simp e in let clash : Some x ≡ None = sym found ∙ none in cc
found_none p x xs false e none = let rest : find p (x ∷ xs) ≡ find p xs = simp e in (e, sym rest ∙ none)

pub header-whole : (facts : List Fact) (draft : Draft) → IsDraft facts draft → missing_key facts ≡ None → HasHeader draft
header-whole facts draft is whole =
    let p : Key → Bool = λ (key : Key). is_none (slice_index_or draft.values (key_number key) None) in
    let none : find p (Kind ∷ Blocks ∷ Periods ∷ Resources ∷ Rate ∷ []) ≡ None = sym (missing_key-draft facts draft is) ∙ whole in
    let kind = found_none p Kind (Blocks ∷ Periods ∷ Resources ∷ Rate ∷ []) (p Kind) refl none in
    let blocks = found_none p Blocks (Periods ∷ Resources ∷ Rate ∷ []) (p Blocks) refl kind.1 in
    let periods = found_none p Periods (Resources ∷ Rate ∷ []) (p Periods) refl blocks.1 in
    let resources = found_none p Resources (Rate ∷ []) (p Resources) refl periods.1 in
    let rate = found_none p Rate [] (p Rate) refl resources.1 in
    record {
      blocks = present facts draft Blocks (slice_index_or draft.values (key_number Blocks) None) is refl blocks.0;
      periods = present facts draft Periods (slice_index_or draft.values (key_number Periods) None) is refl periods.0;
      resources = present facts draft Resources (slice_index_or draft.values (key_number Resources) None) is refl resources.0;
      rate = present facts draft Rate (slice_index_or draft.values (key_number Rate) None) is refl rate.0;
    }
