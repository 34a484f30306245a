-- The text of a solution.
use Rattle.std.specs.Prelude.{ℕ, List, [], ◌∷◌, ◌++◌, decimal}
use Rattle.std.specs.List.{flat_map}

-- `b t` and a line feed
abbrev pub line_text : ℕ × ℕ → List ℕ
line_text pair = decimal pair.0 ++ 32 ∷ (decimal pair.1 ++ 10 ∷ [])

unfoldable pub solution_text : List (ℕ × ℕ) → List ℕ
solution_text pairs = flat_map line_text pairs
