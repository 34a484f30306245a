-- What the lines of a model say.
use Rattle.std.specs.Prelude.{◌≡◌, ◌≢◌, ◌⊎◌, ℕ, ◌==◌, if◌then◌else◌, List, [], ◌∷◌, find, Result, Ok, Err, Option, Some, None, is_some, is_none, codes, unwrap_or}
use Rattle.std.specs.List.{list_any, filter_map}
use Rattle.std.specs.Option.{option_map}
use Rattle.std.specs.Str.{bytes_eq}
use Rattle.pit_model.specs.Pit.{Pit, empty_pit}
use Rattle.pit_text.specs.declared.error.Fault.{Fault}
use Rattle.pit_text.specs.declared.error.Fault.TheVariants.{MissingHeader, BadHeader, SectionTwice}
use Rattle.pit_text.specs.declared.model.key.Key.{Key}
use Rattle.pit_text.specs.declared.model.key.Key.TheVariants.{Kind, Blocks, Periods, Resources, Rate}
use Rattle.pit_text.specs.declared.model.section.Section.{Section}
use Rattle.pit_text.specs.declared.model.section.Section.TheVariants.{Objective, Coefficients, Limits}
use Rattle.pit_text.specs.declared.model.section_fact.SectionFact.{SectionFact}
use Rattle.pit_text.specs.Cutting.{Cut}
use Rattle.pit_text.specs.Stands.{◌>>=◌, StandsTo, StandsWhole}
use Rattle.pit_text.specs.Earlier.{first_value}
use Rattle.pit_text.specs.Header.{value_of_key}
use Rattle.pit_text.specs.Keys.{key_of, key_number, same_section}
use Rattle.pit_text.specs.Causes.{fact_unless}
use Rattle.pit_text.specs.Added.{pit_with}
use Rattle.pit_text.specs.SectionFacts.{section_fact_of, with_section_fact, section_fact_refusal}

-- what one line states
pub data Fact : Type 0 where
  skipped : Fact
  header : Key → ℕ → Fact
  section : Section → Fact
  in_section : SectionFact → Fact

-- ---- what the earlier lines said

abbrev pub last_of : {X : Type 0} → List X → Option X
last_of [] = None
last_of (x ∷ []) = Some x
last_of (x ∷ y ∷ more) = last_of (y ∷ more)

abbrev pub value_in_fact : Key → Fact → Option ℕ
value_in_fact key (header k n) = if key_number k == key_number key then Some n else None
value_in_fact key fact = None

-- the value of a key
abbrev pub header_value : List Fact → Key → Option ℕ
header_value facts key = first_value (value_in_fact key) facts

abbrev pub section_in_fact : Fact → Option Section
section_in_fact (section s) = Some s
section_in_fact fact = None

-- the sections so far, the first one first
abbrev pub sections : List Fact → List Section
sections facts = filter_map section_in_fact facts

abbrev pub section_fact_in : Fact → Option SectionFact
section_fact_in (in_section e) = Some e
section_fact_in fact = None

-- what the lines of sections said so far
abbrev pub section_facts : List Fact → List SectionFact
section_facts facts = filter_map section_fact_in facts

-- ---- the header

abbrev pub new_value : List Fact → Key → List ℕ → Result Fact Fault
new_value earlier key value =
    if is_some (header_value earlier key) then Err (BadHeader key)
    else (value_of_key key value >>= (λ n. Ok (header key n)))

-- the line of a key that is listed has exactly one value
abbrev pub key_line : List Fact → Key → List (List ℕ) → Result Fact Fault
key_line earlier key (value ∷ []) = new_value earlier key value
key_line earlier key values = Err (BadHeader key)

abbrev pub header_line : List Fact → Option Key → List (List ℕ) → Result Fact Fault
header_line earlier None values = Ok skipped
header_line earlier (Some key) values = key_line earlier key values

abbrev pub needed_keys : List Key
needed_keys = Kind ∷ Blocks ∷ Periods ∷ Resources ∷ Rate ∷ []

-- the first needed key that hasn't come
abbrev pub missing_key : List Fact → Option Key
missing_key facts = find (λ key. is_none (header_value facts key)) needed_keys

-- ---- sections

unfoldable pub section_of : List ℕ → Option Section
section_of field =
    if bytes_eq field (codes "OBJECTIVE_FUNCTION") then Some Objective
    else if bytes_eq field (codes "RESOURCE_CONSTRAINT_COEFFICIENTS") then Some Coefficients
    else if bytes_eq field (codes "RESOURCE_CONSTRAINT_LIMITS") then Some Limits
    else None

abbrev pub new_section : List Fact → Section → Result Fact Fault
new_section earlier s = if list_any (same_section s) (sections earlier) then Err SectionTwice else Ok (section s)

-- a section line ends the header
abbrev pub section_after : List Fact → Section → Option Key → Result Fact Fault
section_after earlier s (Some key) = Err (MissingHeader key)
section_after earlier s None = new_section earlier s

abbrev pub section_line : List Fact → Section → Result Fact Fault
section_line earlier s = section_after earlier s (missing_key earlier)

-- ---- the pit

abbrev pub number_of : List Fact → Key → ℕ
number_of facts key = unwrap_or (header_value facts key) 0

-- the pit of a header
abbrev pub header_pit : List Fact → Pit
header_pit facts = empty_pit (number_of facts Blocks) (number_of facts Periods) (number_of facts Resources) (number_of facts Rate)

-- what the facts of a model say of a pit: that of the header, and then what each line of a section says
unfoldable pub pit_of : List Fact → Pit
pit_of facts = pit_with with_section_fact (header_pit facts) (section_facts facts)

-- a fact of a section stands, unless the pit so far refuses it
abbrev pub new_section_fact : List Fact → SectionFact → Result Fact Fault
new_section_fact earlier e = fact_unless (section_fact_refusal (pit_of earlier) e) (in_section e)

abbrev pub section_fact_line : List Fact → Section → List (List ℕ) → Result Fact Fault
section_fact_line earlier s fields = section_fact_of s fields >>= new_section_fact earlier

-- ---- any line

-- by the section that the line stands in
abbrev pub body_line : List Fact → Option Section → List ℕ → List (List ℕ) → Result Fact Fault
body_line earlier (Some s) first values = section_fact_line earlier s (first ∷ values)
body_line earlier None first values = header_line earlier (key_of first) values

-- by the section that the line begins
abbrev pub line_by : List Fact → Option Section → List ℕ → List (List ℕ) → Result Fact Fault
line_by earlier (Some s) first values = section_line earlier s
line_by earlier None first values = body_line earlier (last_of (sections earlier)) first values

unfoldable pub model_line : List Fact → List (List ℕ) → Result Fact Fault
model_line earlier [] = Ok skipped
model_line earlier (first ∷ values) = line_by earlier (section_of first) first values

-- where no section line has seen to it, the end does
unfoldable pub model_end : List Fact → Option Fault
model_end facts = option_map MissingHeader (missing_key facts)

-- ---- out of memory

-- Memory runs out where the header is whole and no line so far has a fault: at the first section line or a line behind it, or at the end of a text
-- that stands for facts.
abbrev pub ModelStops : List Cut → ℕ → ℕ → Type 0
ModelStops lines end place =
    ((facts : List Fact) × StandsTo model_line lines place facts × (sections facts ≢ []))
    ⊎ ((facts : List Fact) × StandsWhole model_line model_end lines facts × (place ≡ end))
