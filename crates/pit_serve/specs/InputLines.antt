-- The lines of a planner's input that are answered.
use Rattle.std.specs.Prelude.{ℕ, ◌==◌, ◌&&◌, ◌||◌, not, nat_lt, Bool, if◌then◌else◌, List, [], ◌∷◌, length}
use Rattle.std.specs.List.{slice_split}
use Rattle.pit_num.specs.Lines.{without_empty_last}
use Rattle.pit_text.specs.Cutting.{without_return, fields_of, is_last, is_comment}
use Rattle.pit_serve.specs.declared.asked.TheConstants.{LINE_MAX}

-- each without its line feed
unfoldable pub input_lines : List ℕ → List (List ℕ)
input_lines input = without_empty_last (slice_split (λ b. b == 10) input)

abbrev pub is_long : List ℕ → Bool
is_long line = nat_lt LINE_MAX (length line)

-- the `EOF` line
abbrev pub ends_input : List ℕ → Bool
ends_input line = not (is_long line) && is_last (without_return line)

-- a line that is too long, whatever it holds; or one that has fields and is no comment
abbrev pub is_answered : List ℕ → Bool
is_answered line = is_long line || not (is_comment (without_return line) || length (fields_of (without_return line)) == 0)

-- those before the `EOF` line
unfoldable pub answered_among : List (List ℕ) → List (List ℕ)
answered_among [] = []
answered_among (line ∷ lines) =
    if ends_input line then []
    else if is_answered line then line ∷ answered_among lines
    else answered_among lines

abbrev pub answered_lines : List ℕ → List (List ℕ)
answered_lines input = answered_among (input_lines input)
