-- Upper limits, by the cells of their resources and periods.
use Rattle.std.specs.Prelude.{ℕ, ℤ, List, Option, None, slice_index_or}
use Rattle.pit_model.specs.Pit.{Pit, cell_of}

-- what the cell of a resource in a period has
abbrev pub at_cell : {X : Type 0} → Pit → (ℕ → X) → ℕ → ℕ → X
at_cell pit cells r t = cells (cell_of pit r t)

-- the limit of a cell, of a list that has one or none for each
abbrev pub cell_limit : List (Option ℤ) → ℕ → Option ℤ
cell_limit limits cell = slice_index_or limits cell None
