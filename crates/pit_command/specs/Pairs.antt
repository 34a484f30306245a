-- The words for the streams of planners.
use Rattle.std.specs.Prelude.{ℕ, Bool, ◌&&◌, ◌==◌, not, nat_lt, List, length}
use Rattle.std.specs.List.{after_first, before_first, list_all, position_or_len}

abbrev pub is_colon : ℕ → Bool
is_colon b = b == 58

-- what stands before the first colon of a word, and what stands behind it
abbrev pub input_of : List ℕ → List ℕ
input_of word = before_first is_colon word

abbrev pub output_of : List ℕ → List ℕ
output_of word = after_first is_colon word

-- it has a colon, and neither is empty
abbrev pub has_pair : List ℕ → Bool
has_pair word = nat_lt (position_or_len is_colon word) (length word) && (not (length (input_of word) == 0) && not (length (output_of word) == 0))

abbrev pub are_pairs : List (List ℕ) → Bool
are_pairs words = list_all has_pair words
