-- How many blocks went from each period to each, in a square table whose last row and column are of none.
use Rattle.std.specs.Prelude.{◌≡◌, ℕ, ◌+◌, ◌*◌, ◌<◌, List, Option, Some, None, slice_index_or, IfSome}

-- the row and the column of a period, of so many, or of none
abbrev pub table_place : ℕ → Option ℕ → ℕ
table_place periods None = periods
table_place periods (Some t) = t

abbrev pub table_cell : ℕ → Option ℕ → Option ℕ → ℕ
table_cell periods from to = table_place periods from * (periods + 1) + table_place periods to

abbrev pub table_number : ℕ → List ℕ → Option ℕ → Option ℕ → ℕ
table_number periods counts from to = slice_index_or counts (table_cell periods from to) 0

-- a period in range, or none
abbrev pub IsPeriodOrNone : ℕ → Option ℕ → Type 0
IsPeriodOrNone periods p = IfSome p (λ t. t < periods)

-- the table has these numbers
abbrev pub IsTableOf : ℕ → List ℕ → (Option ℕ → Option ℕ → ℕ) → Type 0
IsTableOf periods counts number = (from to : Option ℕ) → IsPeriodOrNone periods from → IsPeriodOrNone periods to → table_number periods counts from to ≡ number from to
