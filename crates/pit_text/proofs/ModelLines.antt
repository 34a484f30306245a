-- What a line of a model is judged to be.
use Rattle.std.proofs.Common.{◌≡◌, ℕ, List, [], ◌∷◌, cond, Option, Some, None, is_some, Result, Ok, Err, MatchResult, ap, ◌∙◌, refl}
use Rattle.pit_text.specs.declared.error.Fault.{Fault}
use Rattle.pit_text.specs.declared.error.Fault.TheVariants.{BadHeader}
use Rattle.pit_text.specs.declared.model.key.Key.{Key}
use Rattle.pit_text.specs.declared.model.section.Section.{Section}
use Rattle.pit_text.specs.Stands.{◌>>=◌}
use Rattle.pit_text.specs.Keys.{key_of}
use Rattle.pit_text.specs.Header.{value_of_key}
use Rattle.pit_text.specs.Model.{Fact, skipped, header, header_value, section_of, sections, last_of, section_line, key_line, header_line, section_fact_line, body_line, line_by, model_line}

pub line_empty : (facts : List Fact) → model_line facts [] ≡ Ok skipped
unfolding model_line
line_empty facts = refl

pub line_section : (facts : List Fact) (first : List ℕ) (values : List (List ℕ)) (s : Section) → section_of first ≡ Some s → model_line facts (first ∷ values) ≡ section_line facts s
unfolding model_line
line_section facts first values s is = ap (λ o. line_by facts o first values) is

line_inside : (facts : List Fact) (first : List ℕ) (values : List (List ℕ)) (o : Option Section) → section_of first ≡ None → last_of (sections facts) ≡ o → model_line facts (first ∷ values) ≡ body_line facts o first values
unfolding model_line
line_inside facts first values o none is = ap (λ s. line_by facts s first values) none ∙ ap (λ s. body_line facts s first values) is

pub line_key : (facts : List Fact) (first : List ℕ) (values : List (List ℕ)) (key : Key) → section_of first ≡ None → last_of (sections facts) ≡ None → key_of first ≡ Some key → model_line facts (first ∷ values) ≡ key_line facts key values
line_key facts first values key none before is = line_inside facts first values None none before ∙ ap (λ k. header_line facts k values) is

pub line_unlisted : (facts : List Fact) (first : List ℕ) (values : List (List ℕ)) → section_of first ≡ None → last_of (sections facts) ≡ None → key_of first ≡ None → model_line facts (first ∷ values) ≡ Ok skipped
line_unlisted facts first values none before is = line_inside facts first values None none before ∙ ap (λ k. header_line facts k values) is

pub line_section_fact : (facts : List Fact) (first : List ℕ) (values : List (List ℕ)) (s : Section) → section_of first ≡ None → last_of (sections facts) ≡ Some s → model_line facts (first ∷ values) ≡ section_fact_line facts s (first ∷ values)
line_section_fact facts first values s none is = line_inside facts first values (Some s) none is

-- the line of a new key
pub new_key : (facts : List Fact) (key : Key) (value : List ℕ) (n : ℕ) → header_value facts key ≡ None → value_of_key key value ≡ Ok n → key_line facts key (value ∷ []) ≡ Ok (header key n)
new_key facts key value n none is =
    ap (λ (o : Option ℕ). cond (is_some o) (Err (BadHeader key)) (value_of_key key value >>= (λ m. Ok (header key m)))) none
    ∙ ap (λ (r : Result ℕ Fault). r >>= (λ m. Ok (header key m))) is

-- a fact about either variant
pub match_map : {T E : Type 0} (r : Result T E) {P P' : T → Type 0} {Q Q' : E → Type 0} → ((x : T) → P x → P' x) → ((e : E) → Q e → Q' e) → MatchResult r P Q → MatchResult r P' Q'
match_map (Ok x) f g h = f x h
match_map (Err e) f g h = g e h
