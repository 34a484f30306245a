-- The keys of a header and the sections, numbered as a model lists them.
use Rattle.std.specs.Prelude.{ℕ, Bool, ◌==◌, List, [], ◌∷◌, Option, slice_index_or, codes}
use Rattle.std.specs.Map.{lookup}
use Rattle.std.specs.Str.{bytes_eq}
use Rattle.pit_text.specs.declared.model.key.Key.{Key}
use Rattle.pit_text.specs.declared.model.key.Key.TheVariants.{Kind, Blocks, Periods, Resources, Rate, Destinations, Generals}
use Rattle.pit_text.specs.declared.model.section.Section.{Section}
use Rattle.pit_text.specs.declared.model.section.Section.TheVariants.{Objective, Coefficients, Limits}

abbrev pub key_number : Key → ℕ
key_number Kind = 0
key_number Blocks = 1
key_number Periods = 2
key_number Resources = 3
key_number Rate = 4
key_number Destinations = 5
key_number Generals = 6

-- the keys with their texts in a model, each at its number
abbrev pub keys : List (List ℕ × Key)
keys =
    (codes "TYPE", Kind)
    ∷ (codes "NBLOCKS", Blocks)
    ∷ (codes "NPERIODS", Periods)
    ∷ (codes "NRESOURCE_SIDE_CONSTRAINTS", Resources)
    ∷ (codes "DISCOUNT_RATE", Rate)
    ∷ (codes "NDESTINATIONS", Destinations)
    ∷ (codes "NGENERAL_SIDE_CONSTRAINTS", Generals)
    ∷ []

abbrev pub key_text : Key → List ℕ
key_text key = (slice_index_or keys (key_number key) ([], Kind)).0

unfoldable pub key_of : List ℕ → Option Key
key_of field = lookup (bytes_eq field) keys

abbrev pub section_number : Section → ℕ
section_number Objective = 0
section_number Coefficients = 1
section_number Limits = 2

abbrev pub same_section : Section → Section → Bool
same_section s other = section_number s == section_number other
