-- What an iterator has left.
use Rattle.std.specs.Prelude.{◌≡◌, ℕ, ◌+◌, if◌then◌else◌, List, [], take, Option, IfNone}
use Rattle.std.specs.List.{position_or_len}
use Rattle.std.specs.Iterator.{YieldsFirstBy}
use Rattle.pit_text.specs.Cutting.{lines_of, fields_of, Cut, cut_from, is_last}
use Rattle.pit_text.specs.declared.cutting.fields.Fields.{Fields}
use Rattle.pit_text.specs.declared.cutting.lines.Line.{Line}
use Rattle.pit_text.specs.declared.cutting.lines.Lines.{Lines}

abbrev pub fields_left : Fields → List (List ℕ)
fields_left fields = fields_of (take fields.len fields.text.now)

-- a line, by its number and its fields
abbrev pub cut_seen : Line → Cut
cut_seen line = record { number = line.number; fields = fields_left line.fields }

abbrev pub lines_left : Lines → List Cut
lines_left lines = if lines.has_ended then [] else cut_from lines.number (lines_of lines.rest.now)

-- the number of the end line
abbrev pub end_left : Lines → ℕ
end_left lines = if lines.has_ended then lines.number else lines.number + position_or_len is_last (lines_of lines.rest.now)

-- `next` has answered `None`
abbrev pub IsAtEndLine : Lines → Type 0
IsAtEndLine lines = lines.number ≡ end_left lines

-- what a call of `next` gives and leaves
abbrev pub LinesStep : Lines → Option Line → Lines → Type 0
LinesStep old line new =
    YieldsFirstBy cut_seen lines_left old line new × (end_left new ≡ end_left old) × IfNone line (IsAtEndLine new)
