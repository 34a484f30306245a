-- What a reader keeps of the lines of a model so far.
use Rattle.std.specs.Prelude.{◌≡◌, ℕ, ◌≤◌, List, [], length, Option, is_none, find, Some, None, false, slice_index_or, unwrap_or}
use Rattle.std.specs.List.{list_any}
use Rattle.pit_num.specs.declared.limits.TheConstants.{PERIODS_MAX, RATE_MAX}
use Rattle.pit_model.specs.declared.counts.TheConstants.{BLOCKS_MAX, RESOURCES_MAX}
use Rattle.pit_model.specs.Pit.{Pit}
use Rattle.pit_text.specs.declared.model.key.Key.{Key}
use Rattle.pit_text.specs.declared.model.key.Key.TheVariants.{Kind, Blocks, Periods, Resources, Rate, Destinations, Generals}
use Rattle.pit_text.specs.declared.model.section.Section.{Section}
use Rattle.pit_text.specs.declared.model.draft.Draft.{Draft}
use Rattle.pit_text.specs.Keys.{key_number, section_number, same_section}
use Rattle.pit_text.specs.Model.{Fact, skipped, header, section, in_section, header_value, sections, section_facts, last_of, needed_keys, missing_key, pit_of}

-- the numbers that a key may have
abbrev pub IsNumberOf : Key → ℕ → Type 0
IsNumberOf Kind n = n ≡ 0
IsNumberOf Blocks n = (1 ≤ n) × (n ≤ BLOCKS_MAX)
IsNumberOf Periods n = (1 ≤ n) × (n ≤ PERIODS_MAX)
IsNumberOf Resources n = n ≤ RESOURCES_MAX
IsNumberOf Rate n = n ≤ RATE_MAX
IsNumberOf Destinations n = n ≡ 1
IsNumberOf Generals n = n ≡ 0

-- the draft keeps these facts
pub record IsDraft (facts : List Fact) (draft : Draft) : Type 0 where
  pub seven : length draft.values ≡ 7
  pub three : length draft.seen ≡ 3
  pub values : (key : Key) → header_value facts key ≡ slice_index_or draft.values (key_number key) None
  pub numbers : (key : Key) (n : ℕ) → header_value facts key ≡ Some n → IsNumberOf key n
  pub section : last_of (sections facts) ≡ draft.section
  pub seen : (s : Section) → list_any (same_section s) (sections facts) ≡ slice_index_or draft.seen (section_number s) false

abbrev pub number_at : Draft → Key → ℕ
number_at draft key = unwrap_or (slice_index_or draft.values (key_number key) None) 0

-- the first needed key that the draft has no value for
abbrev pub missing_key_in : Draft → Option Key
missing_key_in draft = find (λ key. is_none (slice_index_or draft.values (key_number key) None)) needed_keys

-- the needed numbers are there
pub record HasHeader (draft : Draft) : Type 0 where
  pub blocks : IsNumberOf Blocks (number_at draft Blocks)
  pub periods : IsNumberOf Periods (number_at draft Periods)
  pub resources : IsNumberOf Resources (number_at draft Resources)
  pub rate : IsNumberOf Rate (number_at draft Rate)

-- a line of the header, or the first line of a section, which nothing needed is missing at
abbrev pub IsHeaderFact : List Fact → Fact → Draft → Type 0
IsHeaderFact facts skipped draft = draft.section ≡ None
IsHeaderFact facts (header key n) draft = draft.section ≡ None
IsHeaderFact facts (section s) draft = (draft.section ≡ Some s) × (missing_key facts ≡ None)
IsHeaderFact facts (in_section e) draft = ⊥

-- the header is whole, and no line of a section was read
pub record IsHeader (facts : List Fact) (draft : Draft) : Type 0 where
  pub keeps : IsDraft facts draft
  pub whole : missing_key facts ≡ None
  pub none : section_facts facts ≡ []

-- the pit has what the lines of the sections said
pub record IsBody (facts : List Fact) (draft : Draft) (pit : Pit) : Type 0 where
  pub keeps : IsDraft facts draft
  pub whole : missing_key facts ≡ None
  pub says : pit ≡ pit_of facts
