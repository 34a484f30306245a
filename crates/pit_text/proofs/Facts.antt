-- What one more fact of a model changes.
use Rattle.std.proofs.Common.{◌≡◌, List, [], ◌∷◌, ◌++◌, Some, None, unwrap_or, ap, ◌∙◌, refl}
use Rattle.std.specs.List.{cons_option}
use Rattle.std.proofs.lemmas.List.{append-nil}
use Rattle.std.proofs.lemmas.List.Elements.{filter_map-append}
use Rattle.pit_model.specs.Pit.{Pit}
use Rattle.pit_text.specs.declared.model.key.Key.{Key}
use Rattle.pit_text.specs.declared.model.key.Key.TheVariants.{Blocks, Periods, Resources, Rate}
use Rattle.pit_text.specs.declared.model.section_fact.SectionFact.{SectionFact}
use Rattle.pit_text.specs.SectionFacts.{with_section_fact}
use Rattle.pit_text.specs.Added.{pit_with}
use Rattle.pit_text.proofs.Pits.{pit_with-none, pit_with-more}
use Rattle.pit_text.proofs.Firsts.{or_else, or_else-none, first_value-more}
use Rattle.pit_text.specs.Model.{Fact, in_section, last_of, header_value, value_in_fact, sections, section_in_fact, section_facts, section_fact_in, number_of, missing_key, header_pit, pit_of}

pub header_value-more : (facts : List Fact) (fact : Fact) (key : Key) → header_value (facts ++ fact ∷ []) key ≡ or_else (header_value facts key) (value_in_fact key fact)
header_value-more facts fact key = first_value-more (value_in_fact key) facts fact

pub sections-more : (facts : List Fact) (fact : Fact) → sections (facts ++ fact ∷ []) ≡ sections facts ++ cons_option (section_in_fact fact) []
sections-more facts fact = filter_map-append section_in_fact facts (fact ∷ [])

pub section_facts-more : (facts : List Fact) (fact : Fact) → section_facts (facts ++ fact ∷ []) ≡ section_facts facts ++ cons_option (section_fact_in fact) []
section_facts-more facts fact = filter_map-append section_fact_in facts (fact ∷ [])

-- a fact that says nothing of a key, or of the pit
pub same_value : (facts : List Fact) (fact : Fact) (key : Key) → value_in_fact key fact ≡ None → header_value (facts ++ fact ∷ []) key ≡ header_value facts key
same_value facts fact key none = header_value-more facts fact key ∙ ap (λ o. or_else (header_value facts key) o) none ∙ or_else-none (header_value facts key)

pub same_section_facts : (facts : List Fact) (fact : Fact) → section_fact_in fact ≡ None → section_facts (facts ++ fact ∷ []) ≡ section_facts facts
same_section_facts facts fact none = section_facts-more facts fact ∙ ap (λ o. section_facts facts ++ cons_option o []) none ∙ append-nil (section_facts facts)

pub last_of-push : {X : Type 0} (xs : List X) (x : X) → last_of (xs ++ x ∷ []) ≡ Some x
last_of-push [] x = refl
last_of-push (y ∷ []) x = refl
last_of-push (y ∷ z ∷ more) x = last_of-push (z ∷ more) x

-- what is missing goes by the values alone
pub missing_key-same : (facts others : List Fact) → ((key : Key) → header_value others key ≡ header_value facts key) → missing_key others ≡ missing_key facts
missing_key-same facts others same = simp same

-- ---- the pit of the facts

number_of-same : (facts others : List Fact) (key : Key) → header_value others key ≡ header_value facts key → number_of others key ≡ number_of facts key
number_of-same facts others key same = ap (λ o. unwrap_or o 0) same

header_pit-same : (facts others : List Fact) → ((key : Key) → header_value others key ≡ header_value facts key) → header_pit others ≡ header_pit facts
header_pit-same facts others same =
    let blocks : number_of others Blocks ≡ number_of facts Blocks = number_of-same facts others Blocks (same Blocks) in
    let periods : number_of others Periods ≡ number_of facts Periods = number_of-same facts others Periods (same Periods) in
    let resources : number_of others Resources ≡ number_of facts Resources = number_of-same facts others Resources (same Resources) in
    let rate : number_of others Rate ≡ number_of facts Rate = number_of-same facts others Rate (same Rate) in
    cc

pub pit_of-same : (facts others : List Fact) → ((key : Key) → header_value others key ≡ header_value facts key) → section_facts others ≡ section_facts facts → pit_of others ≡ pit_of facts
unfolding pit_of
pit_of-same facts others same said =
    ap (λ (pit : Pit). pit_with with_section_fact pit (section_facts others)) (header_pit-same facts others same) ∙ ap (λ (es : List SectionFact). pit_with with_section_fact (header_pit facts) es) said

-- one more fact of a section
pub pit_of-section_fact : (facts : List Fact) (e : SectionFact) → pit_of (facts ++ in_section e ∷ []) ≡ with_section_fact (pit_of facts) e
unfolding pit_of
pit_of-section_fact facts e =
    ap (λ (pit : Pit). pit_with with_section_fact pit (section_facts (facts ++ in_section e ∷ []))) (header_pit-same facts (facts ++ in_section e ∷ []) (λ key. same_value facts (in_section e) key refl))
    ∙ ap (λ (es : List SectionFact). pit_with with_section_fact (header_pit facts) es) (section_facts-more facts (in_section e))
    ∙ pit_with-more with_section_fact (header_pit facts) (section_facts facts) e

-- no fact of a section yet
pub pit_of-header : (facts : List Fact) → section_facts facts ≡ [] → pit_of facts ≡ header_pit facts
unfolding pit_of
pit_of-header facts none = ap (λ (es : List SectionFact). pit_with with_section_fact (header_pit facts) es) none ∙ pit_with-none with_section_fact (header_pit facts)
