-- Cells, each once with its load.
use Rattle.std.specs.Prelude.{◌≡◌, ◌≢◌, ℕ, ◌<◌, ℤ, pos, List, length, nat_eq, slice_index_or}
use Rattle.std.specs.List.{IsDistinct}
use Rattle.std.specs.Map.{keys_of}

-- the cell stands at this place of a list, and at none before it
abbrev pub IsFirstOf : List (ℕ × ℤ) → ℕ → ℕ → Type 0
IsFirstOf cells cell i = (i < length cells) × ((slice_index_or cells i (0, pos 0)).0 ≡ cell) × ((j : ℕ) → j < i → (slice_index_or cells j (0, pos 0)).0 ≢ cell)

-- no cell stands twice
abbrev pub AreOnce : List (ℕ × ℤ) → Type 0
AreOnce cells = IsDistinct nat_eq (keys_of cells)
