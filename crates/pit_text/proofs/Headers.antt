-- The end of a model's header.
use Rattle.std.proofs.Common.{◌≡◌, ◌≢◌, ℕ, inl, true, false, List, [], ◌∷◌, ◌++◌, Option, Some, None, is_some, unwrap_or, Ok, ap, sym, ◌∙◌, subst, refl}
use Rattle.std.specs.List.{cons_option}
use Rattle.std.specs.Option.{option_map}
use Rattle.pit_model.specs.Pit.{Pit, empty_pit}
use Rattle.pit_text.specs.declared.error.Fault.TheVariants.{MissingHeader}
use Rattle.pit_text.specs.declared.model.key.Key.{Key}
use Rattle.pit_text.specs.declared.model.key.Key.TheVariants.{Blocks, Periods, Resources, Rate}
use Rattle.pit_text.specs.declared.model.section.Section.{Section}
use Rattle.pit_text.specs.declared.model.draft.Draft.{Draft}
use Rattle.pit_text.specs.Cutting.{Cut}
use Rattle.pit_text.specs.Inside.Stands.{IsReadTo}
use Rattle.pit_text.specs.Model.{Fact, skipped, header, section, in_section, sections, section_in_fact, last_of, section_facts, missing_key, model_line, model_end, number_of, header_pit, ModelStops}
use Rattle.pit_text.specs.Inside.Draft.{IsDraft, IsHeaderFact, IsHeader, HasHeader, number_at, IsBody}
use Rattle.pit_text.proofs.Reading.{read_more, read_stands}
use Rattle.pit_text.proofs.Facts.{sections-more, same_value, same_section_facts, missing_key-same, pit_of-header}
use Rattle.pit_text.proofs.Drafts.{header-whole}
use Rattle.pit_text.proofs.Bodies.{not_none}

pub end_is : (facts : List Fact) (o : Option Key) → missing_key facts ≡ o → model_end facts ≡ option_map MissingHeader o
unfolding model_end
end_is facts o is = ap (λ (k : Option Key). option_map MissingHeader k) is

-- ---- the end of the header

no_section : (draft : Draft) → draft.section ≡ None → is_some draft.section ≡ true → ⊥
no_section draft none some = let clash : false ≡ true = ap (λ (o : Option Section). is_some o) (sym none) ∙ some in cc

some_section : (draft : Draft) (s : Section) → draft.section ≡ Some s → is_some draft.section ≡ false → ⊥
some_section draft s is none = let clash : true ≡ false = ap (λ (o : Option Section). is_some o) (sym is) ∙ none in cc

front-nil : {X : Type 0} (xs ys : List X) → xs ++ ys ≡ [] → xs ≡ []
front-nil [] ys none = refl
front-nil (x ∷ xs) ys none = cc

push-some : {X : Type 0} (xs : List X) (x : X) → xs ++ x ∷ [] ≢ []
push-some [] x none = cc
push-some (y ∷ xs) x none = cc

-- a section was begun before a line
pub begun-more : (facts : List Fact) (fact : Fact) (draft : Draft) → IsDraft facts draft → draft.section ≢ None → sections (facts ++ fact ∷ []) ≢ []
begun-more facts fact draft is begun = λ none.
    begun (sym is.section ∙ ap (λ (ss : List Section). last_of ss) (front-nil (sections facts) (cons_option (section_in_fact fact) []) (sym (sections-more facts fact) ∙ none)))

-- or with it
begun-here : (facts : List Fact) (s : Section) → sections (facts ++ section s ∷ []) ≢ []
begun-here facts s = λ none. push-some (sections facts) s (sym (sections-more facts (section s)) ∙ none)

pub stops_of : (lines others : List Cut) (end other place : ℕ) → lines ≡ others → end ≡ other → ModelStops lines end place → ModelStops others other place
stops_of lines others end other place same ends stops =
    subst (λ (ls : List Cut). ModelStops ls other place) same (subst (λ (n : ℕ). ModelStops lines n place) ends stops)

-- at the first section line
pub header_ends : (lines left after : List Cut) (line : Cut) (end : ℕ) (facts : List Fact) (fact : Fact) (draft : Draft) → IsReadTo model_line lines left facts → left ≡ line ∷ after
    → section_facts facts ≡ [] → model_line facts line.fields ≡ Ok fact → IsDraft (facts ++ fact ∷ []) draft → IsHeaderFact facts fact draft → is_some draft.section ≡ true
    → (all : List Fact) × IsReadTo model_line lines after all × IsHeader all draft × HasHeader draft × (draft.section ≡ None → after ≡ []) × ModelStops lines end line.number
header_ends lines left after line end facts skipped draft read next none is keeps kind some = absurd (no_section draft kind some)
header_ends lines left after line end facts (header key n) draft read next none is keeps kind some = absurd (no_section draft kind some)
header_ends lines left after line end facts (section s) draft read next none is keeps kind some =
    let whole : missing_key (facts ++ section s ∷ []) ≡ None = missing_key-same facts (facts ++ section s ∷ []) (λ key. same_value facts (section s) key refl) ∙ kind.1 in (
      facts ++ section s ∷ [],
      read_more model_line lines left after line facts (section s) read next is,
      record { keeps = keeps; whole = whole; none = same_section_facts facts (section s) refl ∙ none },
      header-whole (facts ++ section s ∷ []) draft keeps whole,
      λ empty. absurd (not_none draft.section s kind.0 empty),
      inl (facts ++ section s ∷ [], read_stands model_line lines left after line facts (section s) read next is, begun-here facts s),
    )
header_ends lines left after line end facts (in_section e) draft read next none is keeps kind some = absurd kind

-- before it
pub header_goes_on : (lines left after : List Cut) (line : Cut) (facts : List Fact) (fact : Fact) (draft : Draft) → IsReadTo model_line lines left facts → left ≡ line ∷ after
    → section_facts facts ≡ [] → model_line facts line.fields ≡ Ok fact → IsDraft (facts ++ fact ∷ []) draft → IsHeaderFact facts fact draft → is_some draft.section ≡ false
    → (draft.section ≡ None) × ((all : List Fact) × IsReadTo model_line lines after all × IsDraft all draft × (section_facts all ≡ []))
header_goes_on lines left after line facts skipped draft read next none is keeps kind empty =
    (kind, (facts ++ skipped ∷ [], read_more model_line lines left after line facts skipped read next is, keeps, same_section_facts facts skipped refl ∙ none))
header_goes_on lines left after line facts (header key n) draft read next none is keeps kind empty =
    (kind, (facts ++ header key n ∷ [], read_more model_line lines left after line facts (header key n) read next is, keeps, same_section_facts facts (header key n) refl ∙ none))
header_goes_on lines left after line facts (section s) draft read next none is keeps kind empty = absurd (some_section draft s kind.0 empty)
header_goes_on lines left after line facts (in_section e) draft read next none is keeps kind empty = absurd kind

-- ---- the pit that the sections begin with

number_is : (facts : List Fact) (draft : Draft) (key : Key) → IsDraft facts draft → number_at draft key ≡ number_of facts key
number_is facts draft key is = ap (λ o. unwrap_or o 0) (sym (is.values key))

header_is : (facts : List Fact) (draft : Draft) → IsDraft facts draft
    → empty_pit (number_at draft Blocks) (number_at draft Periods) (number_at draft Resources) (number_at draft Rate) ≡ header_pit facts
header_is facts draft is =
    let blocks : number_at draft Blocks ≡ number_of facts Blocks = number_is facts draft Blocks is in
    let periods : number_at draft Periods ≡ number_of facts Periods = number_is facts draft Periods is in
    let resources : number_at draft Resources ≡ number_of facts Resources = number_is facts draft Resources is in
    let rate : number_at draft Rate ≡ number_of facts Rate = number_is facts draft Rate is in
    cc

pub body_begins : (facts : List Fact) (draft : Draft) (pit : Pit) → IsHeader facts draft
    → pit ≡ empty_pit (number_at draft Blocks) (number_at draft Periods) (number_at draft Resources) (number_at draft Rate) → IsBody facts draft pit
body_begins facts draft pit is made = record { keeps = is.keeps; whole = is.whole; says = made ∙ header_is facts draft is.keeps ∙ sym (pit_of-header facts is.none) }
