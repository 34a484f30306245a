-- What a plain line of a section says.
use Rattle.std.specs.Prelude.{◌≡◌, ℕ, List, ◌∷◌, None, Ok}
use Rattle.pit_text.specs.declared.model.section.Section.{Section}
use Rattle.pit_text.specs.declared.model.section_fact.SectionFact.{SectionFact}
use Rattle.pit_text.specs.SectionFacts.{section_fact_of}
use Rattle.pit_text.specs.Model.{section_of}
use Rattle.pit_text.specs.Inside.Plain.{IsLineThen}

-- the fields of a line of a section state this
pub record IsSaid (section : Section) (fields : List (List ℕ)) (fact : SectionFact) : Type 0 where
  pub first : List ℕ
  pub more : List (List ℕ)
  pub some : fields ≡ first ∷ more
  pub inside : section_of first ≡ None
  pub says : section_fact_of section (first ∷ more) ≡ Ok fact

-- a text begins with such a line, and this is behind its line feed
abbrev pub SaysFact : Section → List ℕ → SectionFact → List ℕ → Type 0
SaysFact section text fact rest =
    (field : List ℕ) × (fields : List (List ℕ)) × IsLineThen text (field ∷ fields) rest × IsSaid section (field ∷ fields) fact
