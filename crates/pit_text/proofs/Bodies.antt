-- What the sections of a model leave as the facts grow.
use Rattle.std.proofs.Common.{◌≡◌, ◌≢◌, List, [], ◌∷◌, ◌++◌, Option, Some, None, ap, sym, ◌∙◌, refl}
use Rattle.pit_text.specs.declared.model.section.Section.{Section}
use Rattle.pit_text.specs.declared.model.draft.Draft.{Draft}
use Rattle.pit_model.specs.Pit.{Pit}
use Rattle.pit_text.specs.declared.model.section_fact.SectionFact.{SectionFact}
use Rattle.pit_text.specs.SectionFacts.{with_section_fact}
use Rattle.pit_text.specs.Model.{Fact, skipped, section, in_section, last_of, sections}
use Rattle.pit_text.specs.Inside.Draft.{IsDraft, IsBody}
use Rattle.pit_text.proofs.Facts.{same_value, same_section_facts, missing_key-same, pit_of-same, pit_of-section_fact, sections-more, last_of-push}
use Rattle.pit_text.proofs.Drafts.{draft-same}

-- a section line says nothing of the pit
pub body-section : (facts : List Fact) (s : Section) (old new : Draft) (pit : Pit) → IsBody facts old pit → IsDraft (facts ++ section s ∷ []) new → IsBody (facts ++ section s ∷ []) new pit
body-section facts s old new pit is keeps = record {
  keeps = keeps;
  whole = missing_key-same facts (facts ++ section s ∷ []) (λ key. same_value facts (section s) key refl) ∙ is.whole;
  says = is.says ∙ sym (pit_of-same facts (facts ++ section s ∷ []) (λ key. same_value facts (section s) key refl) (same_section_facts facts (section s) refl));
}

pub body-skipped : (facts : List Fact) (draft : Draft) (pit : Pit) → IsBody facts draft pit → IsBody (facts ++ skipped ∷ []) draft pit
body-skipped facts draft pit is = record {
  keeps = draft-same facts skipped draft (λ key. refl) refl is.keeps;
  whole = missing_key-same facts (facts ++ skipped ∷ []) (λ key. same_value facts skipped key refl) ∙ is.whole;
  says = is.says ∙ sym (pit_of-same facts (facts ++ skipped ∷ []) (λ key. same_value facts skipped key refl) (same_section_facts facts skipped refl));
}

pub body-section_fact : (facts : List Fact) (e : SectionFact) (draft : Draft) (old new : Pit) → IsBody facts draft old → new ≡ with_section_fact old e → IsBody (facts ++ in_section e ∷ []) draft new
body-section_fact facts e draft old new is made = record {
  keeps = draft-same facts (in_section e) draft (λ key. refl) refl is.keeps;
  whole = missing_key-same facts (facts ++ in_section e ∷ []) (λ key. same_value facts (in_section e) key refl) ∙ is.whole;
  says = made ∙ ap (λ (p : Pit). with_section_fact p e) is.says ∙ sym (pit_of-section_fact facts e);
}

-- a section was begun
pub is_begun : (facts : List Fact) (s : Section) (draft : Draft) → IsDraft (facts ++ section s ∷ []) draft → draft.section ≡ Some s
is_begun facts s draft is = sym is.section ∙ (ap (λ (ss : List Section). last_of ss) (sections-more facts (section s)) ∙ last_of-push (sections facts) s)

pub not_none : {X : Type 0} (o : Option X) (x : X) → o ≡ Some x → o ≢ None
not_none o x is none = let clash : Some x ≡ None = sym is ∙ none in cc
