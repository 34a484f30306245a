-- How a text is cut into lines and fields.
use Rattle.std.specs.Prelude.{ℕ, ◌+◌, ◌-◌, ◌==◌, ◌||◌, not, nat_lt, Bool, false, if◌then◌else◌, List, [], ◌∷◌, length, take, map, filter, slice_index, find, unwrap_or, codes}
use Rattle.std.specs.Str.{bytes_eq}
use Rattle.std.specs.List.{slice_split, before_first, position_or_len, enumerate_from}
use Rattle.pit_num.specs.Lines.{without_empty_last}

-- ---- lines

-- one carriage return at the end is taken off
abbrev pub without_return : List ℕ → List ℕ
without_return line = if slice_index line (length line - 1) == 13 then take (length line - 1) line else line

unfoldable pub lines_of : List ℕ → List (List ℕ)
lines_of text = map without_return (without_empty_last (slice_split (λ b. b == 10) text))

-- ---- fields

-- a space, a tab or a colon
abbrev pub is_gap : ℕ → Bool
is_gap b = b == 32 || b == 9 || b == 58

-- the longest runs of other bytes
unfoldable pub fields_of : List ℕ → List (List ℕ)
fields_of line = filter (λ field. nat_lt 0 (length field)) (slice_split is_gap line)

-- ---- what is read

-- a byte other than a space and a tab
abbrev pub is_mark : ℕ → Bool
is_mark b = not (b == 32 || b == 9)

-- the first of these is a `%`
abbrev pub is_comment : List ℕ → Bool
is_comment line = unwrap_or (find is_mark line) 0 == 37

abbrev pub is_eof : List ℕ → Bool
is_eof field = bytes_eq field (codes "EOF")

-- the first field is `EOF`
abbrev pub begins_with_eof : List (List ℕ) → Bool
begins_with_eof [] = false
begins_with_eof (field ∷ fields) = is_eof field

abbrev pub is_last : List ℕ → Bool
is_last line = begins_with_eof (fields_of line)

-- a line that is read: its number, from 1, and its fields
pub record Cut : Type 0 where
  pub number : ℕ
  pub fields : List (List ℕ)

-- a comment and a line without fields are skipped
abbrev pub is_read : ℕ × List ℕ → Bool
is_read (number, line) = not (is_comment line || length (fields_of line) == 0)

abbrev pub cut_line : ℕ × List ℕ → Cut
cut_line (number, line) = record { number = number; fields = fields_of line }

-- the lines that are read, where the first has this number
unfoldable pub cut_from : ℕ → List (List ℕ) → List Cut
cut_from number lines = map cut_line (filter is_read (enumerate_from number (before_first is_last lines)))

abbrev pub cut_of : List ℕ → List Cut
cut_of text = cut_from 1 (lines_of text)

-- the number of the `EOF` line, or else one past the last line
abbrev pub end_line : List ℕ → ℕ
end_line text = position_or_len is_last (lines_of text) + 1
