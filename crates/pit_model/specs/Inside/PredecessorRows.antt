-- The predecessors of each block, in one array of cells.
use Rattle.std.specs.Prelude.{◌≡◌, ℕ, ◌≤◌, Bool, false, List, length, slice_index_or, slice_range, Option}
use Rattle.pit_model.specs.Inside.BlockSet.{member_values}
use Rattle.pit_model.specs.declared.predecessors.Row.{Row}

-- the row of no cells
abbrev pub no_cells : Row
no_cells = record { start = 0; end = 0 }

-- the cells of a block's row
abbrev pub cells_of : List ℕ → List Row → ℕ → List ℕ
cells_of cells rows block = slice_range cells (slice_index_or rows block no_cells).start (slice_index_or rows block no_cells).end

-- those of each block that is set
abbrev pub rows_in : ℕ → List Bool → List ℕ → List Row → List (Option (List ℕ))
rows_in blocks set cells rows = member_values blocks set (cells_of cells rows)

pub record IsWithinCells (cells : ℕ) (row : Row) : Type 0 where
  pub rising : row.start ≤ row.end
  pub within : row.end ≤ cells

-- a block that isn't set has an empty row
pub record ArePredecessorRows (blocks : ℕ) (set : List Bool) (cells : List ℕ) (rows : List Row) : Type 0 where
  pub few : length rows ≤ blocks
  pub each : (block : ℕ) → IsWithinCells (length cells) (slice_index_or rows block no_cells)
  pub unset : (block : ℕ) → slice_index_or set block false ≡ false → slice_index_or rows block no_cells ≡ no_cells
