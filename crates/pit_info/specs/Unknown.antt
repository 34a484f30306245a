-- The keys of a model's header that aren't listed.
use Rattle.std.specs.Prelude.{ℕ, ◌||◌, ◌&&◌, nat_lt, nat_le, Bool, if◌then◌else◌, List, [], ◌∷◌, ◌++◌, length, map, flat_map, filter, slice_index_or, is_some, unwrap_or, codes}
use Rattle.std.specs.List.{slice_split, before_first}
use Rattle.std.specs.Str.{bytes_eq}
use Rattle.pit_text.specs.Cutting.{Cut}
use Rattle.pit_text.specs.Keys.{key_of}
use Rattle.pit_text.specs.Model.{section_of, last_of}
use Rattle.pit_step.specs.LineTexts.{field_text}

-- the first field of a line
abbrev pub key_field : Cut → List ℕ
key_field line = slice_index_or line.fields 0 []

abbrev pub begins_section : Cut → Bool
begins_section line = is_some (section_of (key_field line))

-- the lines before the first section line
abbrev pub header_of : List Cut → List Cut
header_of lines = before_first begins_section lines

-- `NAME`, or a key that is listed
abbrev pub is_known : List ℕ → Bool
is_known key = bytes_eq key (codes "NAME") || is_some (key_of key)

abbrev pub has_known_key : Cut → Bool
has_known_key line = is_known (key_field line)

-- the longest runs of lines whose keys aren't known
unfoldable pub unknown_runs : List Cut → List (List Cut)
unknown_runs lines = filter (λ run. nat_lt 0 (length run)) (slice_split has_known_key lines)

-- a byte from `!` to `~`, or else `?`
abbrev pub shown_byte : ℕ → ℕ
shown_byte b = if nat_le 33 b && nat_le b 126 then b else 63

-- `unknown FIRST LAST KEY`
abbrev pub span_text : ℕ → ℕ → List ℕ → List ℕ
span_text first last key = codes "unknown " ++ (field_text first 32 ++ (field_text last 32 ++ (map shown_byte key ++ 10 ∷ [])))

-- the numbers of a run's first and last line, and the key of its first
abbrev pub run_text : List Cut → List ℕ
run_text [] = []
run_text (line ∷ others) = span_text line.number (unwrap_or (last_of others) line).number (key_field line)

abbrev pub runs_text : List Cut → List ℕ
runs_text lines = flat_map run_text (unknown_runs lines)

-- of the header
unfoldable pub unknown_text : List Cut → List ℕ
unknown_text lines = runs_text (header_of lines)
