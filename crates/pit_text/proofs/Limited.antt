-- The bounds of the pit of a model.
use Rattle.std.proofs.Common.{◌≡◌, ◌≢◌, ℕ, ◌<◌, nat_le, Bool, true, false, cond, ℤ, List, [], ◌∷◌, ◌++◌, Option, Some, None, is_some, Result, Ok, Err, refl, ap, sym, ◌∙◌, subst, append_assoc, arith}
use Rattle.std.specs.List.{list_any, filter_map, cons_option}
use Rattle.std.proofs.lemmas.List.{append-nil}
use Rattle.std.proofs.lemmas.List.Elements.{filter_map-append}
use Rattle.std.proofs.lemmas.Bool.Decides.{nat_tests}
use Rattle.pit_model.specs.Pit.{Pit, with_profit, with_coef}
use Rattle.pit_model.specs.Refusals.{is_empty_interval, limit_refusal}
use Rattle.pit_model.specs.Tightest.{LimitLine, AreTightest}
use Rattle.pit_model.specs.declared.error.BuildError.{BuildError}
use Rattle.pit_model.specs.declared.error.BuildError.TheVariants.{ResourceRange, PeriodRange, Interval}
use Rattle.pit_model.proofs.CallerLemmas.{tightest-empty, tightest-line}
use Rattle.pit_text.specs.declared.error.Fault.{Fault}
use Rattle.pit_text.specs.declared.error.Fault.TheVariants.{BadHeader, SectionTwice}
use Rattle.pit_text.specs.declared.model.key.Key.{Key}
use Rattle.pit_text.specs.declared.model.key.Key.TheVariants.{Blocks, Periods, Resources, Rate}
use Rattle.pit_text.specs.declared.model.section.Section.{Section}
use Rattle.pit_text.specs.declared.model.section_fact.SectionFact.{SectionFact}
use Rattle.pit_text.specs.declared.model.section_fact.SectionFact.TheVariants.{Profit, Coefficient, Limit}
use Rattle.pit_text.specs.Cutting.{Cut}
use Rattle.pit_text.specs.Stands.{◌>>=◌, StatesAfter, StandsFor}
use Rattle.pit_text.specs.Keys.{key_of, same_section}
use Rattle.pit_text.specs.Header.{value_of_key}
use Rattle.pit_text.specs.Causes.{fact_unless}
use Rattle.pit_text.specs.SectionFacts.{section_fact_of, with_section_fact, section_fact_refusal}
use Rattle.pit_text.specs.Model.{Fact, skipped, header, section, in_section, header_value, sections, section_facts, last_of, header_line, section_of, section_after, missing_key, number_of, header_pit, new_section_fact, body_line, line_by, model_line, pit_of}
use Rattle.pit_text.specs.LimitLines.{limit_in, limit_lines}
use Rattle.pit_text.proofs.Facts.{same_value, same_section_facts, sections-more, section_facts-more, last_of-push, pit_of-same, pit_of-section_fact, pit_of-header}

-- ---- what the judgement of a line says of the facts before it

-- a line of the header comes before all sections, and a line in a section behind one, with a fact that the pit doesn't refuse
abbrev Comes : List Fact → Fact → Type 0
Comes earlier skipped = Unit {0}
Comes earlier (header key n) = sections earlier ≡ []
Comes earlier (section s) = Unit {0}
Comes earlier (in_section e) = (sections earlier ≢ []) × (section_fact_refusal (pit_of earlier) e ≡ None)

same_fact : (earlier : List Fact) (one fact : Fact) (r : Result Fact Fault) → r ≡ Ok one → r ≡ Ok fact → Comes earlier one → Comes earlier fact
same_fact earlier one fact r is also comes = let same : one ≡ fact = cc in subst (λ (f : Fact). Comes earlier f) same comes

last_none : {X : Type 0} (xs : List X) → last_of xs ≡ None → xs ≡ []
last_none [] is = refl
last_none (x ∷ []) is = let clash : Some x ≡ None = is in cc
last_none (x ∷ y ∷ more) is = let none : y ∷ more ≡ [] = last_none (y ∷ more) is in cc

last_some : {X : Type 0} (xs : List X) (x : X) → last_of xs ≡ Some x → xs ≢ []
last_some xs x is none = let clash : None ≡ Some x = sym (ap last_of none) ∙ is in cc

header-comes : (earlier : List Fact) (key : Option Key) (values : List (List ℕ)) (fact : Fact) → sections earlier ≡ [] → header_line earlier key values ≡ Ok fact → Comes earlier fact
header-comes earlier None values fact none is = same_fact earlier skipped fact (Ok skipped) refl is tt
header-comes earlier (Some key) [] fact none is = cc
header-comes earlier (Some key) (value ∷ []) fact none is = by (is_some (header_value earlier key)) (value_of_key key value) is
  where
    by : (comes_again : Bool) (r : Result ℕ Fault) → cond comes_again (Err (BadHeader key)) (r >>= (λ n. Ok (header key n))) ≡ Ok fact → Comes earlier fact
    by true r is = cc
    by false (Ok n) is = same_fact earlier (header key n) fact (Ok (header key n)) refl is none
    by false (Err e) is = cc
header-comes earlier (Some key) (value ∷ other ∷ more) fact none is = cc

section-comes : (earlier : List Fact) (s : Section) (missing : Option Key) (fact : Fact) → section_after earlier s missing ≡ Ok fact → Comes earlier fact
section-comes earlier s (Some key) fact is = cc
section-comes earlier s None fact is = by (list_any (same_section s) (sections earlier)) is
  where
    by : (comes_again : Bool) → cond comes_again (Err SectionTwice) (Ok (section s)) ≡ Ok fact → Comes earlier fact
    by true is = cc
    by false is = same_fact earlier (section s) fact (Ok (section s)) refl is tt

unrefused : (earlier : List Fact) (e : SectionFact) (refusal : Option BuildError) (fact : Fact) → section_fact_refusal (pit_of earlier) e ≡ refusal → sections earlier ≢ [] → fact_unless refusal (in_section e) ≡ Ok fact → Comes earlier fact
unrefused earlier e None fact due some is = same_fact earlier (in_section e) fact (Ok (in_section e)) refl is (some, due)
unrefused earlier e (Some refusal) fact due some is = cc

fact-comes : (earlier : List Fact) (r : Result SectionFact Fault) (fact : Fact) → sections earlier ≢ [] → (r >>= new_section_fact earlier) ≡ Ok fact → Comes earlier fact
fact-comes earlier (Ok e) fact some is = unrefused earlier e (section_fact_refusal (pit_of earlier) e) fact refl some is
fact-comes earlier (Err cause) fact some is = cc

body-comes : (earlier : List Fact) (o : Option Section) (first : List ℕ) (values : List (List ℕ)) (fact : Fact) → last_of (sections earlier) ≡ o → body_line earlier o first values ≡ Ok fact → Comes earlier fact
body-comes earlier None first values fact last is = header-comes earlier (key_of first) values fact (last_none (sections earlier) last) is
body-comes earlier (Some s) first values fact last is = fact-comes earlier (section_fact_of s (first ∷ values)) fact (last_some (sections earlier) s last) is

line-comes : (earlier : List Fact) (o : Option Section) (first : List ℕ) (values : List (List ℕ)) (fact : Fact) → line_by earlier o first values ≡ Ok fact → Comes earlier fact
line-comes earlier (Some s) first values fact is = section-comes earlier s (missing_key earlier) fact is
line-comes earlier None first values fact is = body-comes earlier (last_of (sections earlier)) first values fact refl is

judged : (earlier : List Fact) (fields : List (List ℕ)) (fact : Fact) → model_line earlier fields ≡ Ok fact → Comes earlier fact
unfolding model_line
judged earlier [] fact is = same_fact earlier skipped fact (Ok skipped) refl is tt
judged earlier (first ∷ values) fact is = line-comes earlier (section_of first) first values fact is

-- ---- one more fact

limit-in_range : (pit : Pit) (r t : ℕ) (lo hi : Option ℤ) → limit_refusal pit r t lo hi ≡ None → (r < pit.resources) × (t < pit.periods)
limit-in_range pit r t lo hi is = by (nat_le pit.resources r) (nat_le pit.periods t) (is_empty_interval lo hi) refl refl is
  where
    by : (b c d : Bool) → nat_le pit.resources r ≡ b → nat_le pit.periods t ≡ c → cond b (Some ResourceRange) (cond c (Some PeriodRange) (cond d (Some Interval) None)) ≡ None → (r < pit.resources) × (t < pit.periods)
    by true c d resource period is = cc
    by false true d resource period is = cc
    by false false d resource period is = (grind (arith, nat_tests), grind (arith, nat_tests))

said-more : (pit : Pit) (e : SectionFact) (lines : List LimitLine) → section_fact_refusal pit e ≡ None → AreTightest pit lines → AreTightest (with_section_fact pit e) (lines ++ cons_option (limit_in e) [])
said-more pit (Profit block value) lines fits was =
    subst (λ (ls : List LimitLine). AreTightest (with_profit pit block value) ls) (sym (append-nil lines)) (record { each = was.each; lower = was.lower; upper = was.upper })
said-more pit (Coefficient block resource value) lines fits was =
    subst (λ (ls : List LimitLine). AreTightest (with_coef pit block resource value) ls) (sym (append-nil lines)) (record { each = was.each; lower = was.lower; upper = was.upper })
said-more pit (Limit resource period lo hi) lines fits was =
    let within = limit-in_range pit resource period lo hi fits in
    tightest-line pit lines (record { resource = resource; period = period; lower = lo; upper = hi }) within.0 within.1 was

-- before all sections nothing is said of the pit
record IsLimited (facts : List Fact) : Type 0 where
  nothing : sections facts ≡ [] → section_facts facts ≡ []
  bounds : AreTightest (pit_of facts) (limit_lines facts)

same-bounds : (facts others : List Fact) → pit_of others ≡ pit_of facts → section_facts others ≡ section_facts facts → AreTightest (pit_of facts) (limit_lines facts) → AreTightest (pit_of others) (limit_lines others)
same-bounds facts others pit said was =
    subst (λ (p : Pit). AreTightest p (limit_lines others)) (sym pit) (subst (λ (es : List SectionFact). AreTightest (pit_of facts) (filter_map limit_in es)) (sym said) was)

header-bounds : (facts : List Fact) → section_facts facts ≡ [] → AreTightest (pit_of facts) (limit_lines facts)
header-bounds facts none =
    subst (λ (p : Pit). AreTightest p (limit_lines facts)) (sym (pit_of-header facts none))
    (subst (λ (es : List SectionFact). AreTightest (header_pit facts) (filter_map limit_in es)) (sym none)
    (tightest-empty (number_of facts Blocks) (number_of facts Periods) (number_of facts Resources) (number_of facts Rate)))

limited-more : (facts : List Fact) (fact : Fact) → Comes facts fact → IsLimited facts → IsLimited (facts ++ fact ∷ [])
limited-more facts skipped comes was =
    let said = same_section_facts facts skipped refl in
    record {
      nothing = λ none. said ∙ was.nothing (sym (sections-more facts skipped ∙ append-nil (sections facts)) ∙ none);
      bounds = same-bounds facts (facts ++ skipped ∷ []) (pit_of-same facts (facts ++ skipped ∷ []) (λ key. same_value facts skipped key refl) said) said was.bounds;
    }
limited-more facts (header key n) none was =
    let said = same_section_facts facts (header key n) refl ∙ was.nothing none in
    record { nothing = λ _. said; bounds = header-bounds (facts ++ header key n ∷ []) said }
limited-more facts (section s) comes was =
    let said = same_section_facts facts (section s) refl in
    let last : last_of (sections (facts ++ section s ∷ [])) ≡ Some s = ap (λ (ss : List Section). last_of ss) (sections-more facts (section s)) ∙ last_of-push (sections facts) s in
    record {
      nothing = λ none. absurd (last_some (sections (facts ++ section s ∷ [])) s last none);
      bounds = same-bounds facts (facts ++ section s ∷ []) (pit_of-same facts (facts ++ section s ∷ []) (λ key. same_value facts (section s) key refl) said) said was.bounds;
    }
limited-more facts (in_section e) comes was =
    let lines : limit_lines (facts ++ in_section e ∷ []) ≡ limit_lines facts ++ cons_option (limit_in e) [] =
    ap (λ (es : List SectionFact). filter_map limit_in es) (section_facts-more facts (in_section e)) ∙ filter_map-append limit_in (section_facts facts) (e ∷ []) in
    record {
      nothing = λ none. absurd (comes.0 (sym (sections-more facts (in_section e) ∙ append-nil (sections facts)) ∙ none));
      bounds =
          subst (λ (p : Pit). AreTightest p (limit_lines (facts ++ in_section e ∷ []))) (sym (pit_of-section_fact facts e))
          (subst (λ (ls : List LimitLine). AreTightest (with_section_fact (pit_of facts) e) ls) (sym lines) (said-more (pit_of facts) e (limit_lines facts) comes.1 was.bounds));
    }

-- ---- all facts of a text

limited-after : (earlier : List Fact) (lines : List Cut) (facts : List Fact) → StatesAfter model_line earlier lines facts → IsLimited earlier → IsLimited (earlier ++ facts)
limited-after earlier [] facts none was = subst (λ (fs : List Fact). IsLimited (earlier ++ fs)) (sym none) (subst IsLimited (sym (append-nil earlier)) was)
limited-after earlier (line ∷ lines) [] stated was = absurd stated
limited-after earlier (line ∷ lines) (fact ∷ facts) stated was =
    subst IsLimited (append_assoc earlier (fact ∷ []) facts)
    (limited-after (earlier ++ fact ∷ []) lines facts stated.1 (limited-more earlier fact (judged earlier line.fields fact stated.0) was))

pub model-tightest : (lines : List Cut) (facts : List Fact) → StandsFor model_line lines facts → AreTightest (pit_of facts) (limit_lines facts)
model-tightest lines facts stands = (limited-after [] lines facts stands (record { nothing = λ none. refl; bounds = header-bounds [] refl })).bounds
