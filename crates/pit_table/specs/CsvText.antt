-- What `table` prints, and the status that goes with it.
use Rattle.std.specs.Prelude.{ℕ, ℤ, ◌-ℤ◌, List, [], ◌∷◌, ◌++◌, map, flat_map, Option, Some, None, codes, decimal}
use Rattle.std.specs.List.{range_with_len}
use Rattle.pit_num.specs.Printed.{fixed_text}
use Rattle.pit_model.specs.Pit.{Pit}
use Rattle.pit_plan.specs.Schedule.{Commit, held_period, limit_of}
use Rattle.pit_step.specs.declared.status.Status.{Status}
use Rattle.pit_step.specs.declared.status.Status.TheVariants.{Fine}
use Rattle.pit_table.specs.Rows.{Loading, Row, rows_of}

-- ---- rows of cells

-- each cell behind a `,`
unfoldable pub behind_commas : List (List ℕ) → List ℕ
behind_commas cells = flat_map (λ cell. 44 ∷ cell) cells

-- cells with `,` between them, and a line feed
unfoldable pub row_text : List (List ℕ) → List ℕ
row_text [] = 10 ∷ []
row_text (cell ∷ more) = cell ++ (behind_commas more ++ 10 ∷ [])

-- one row after the other
unfoldable pub csv_text : List (List (List ℕ)) → List ℕ
csv_text rows = flat_map row_text rows

-- ---- cells

-- a number of millionths, or nothing where there is none
abbrev pub amount_cell : Option ℤ → List ℕ
amount_cell None = []
amount_cell (Some z) = fixed_text 6 z

-- a limit less a load
abbrev pub room_below : Option ℤ → ℤ → Option ℤ
room_below None load = None
room_below (Some top) load = Some (top -ℤ load)

-- the load, its lower limit, its upper limit, and the room below that
abbrev pub loading_cells : Loading → List (List ℕ)
loading_cells loading =
    fixed_text 6 loading.load ∷ amount_cell loading.lower ∷ amount_cell loading.upper ∷ amount_cell (room_below loading.upper loading.load) ∷ []

abbrev pub row_cells : Row → List (List ℕ)
row_cells row =
    decimal row.period ∷ decimal row.blocks ∷ fixed_text 18 row.value ∷ fixed_text 18 row.cumulative ∷ flat_map loading_cells row.loadings

-- the names of the columns of a resource
abbrev pub names_of : ℕ → List (List ℕ)
names_of r = (codes "load_" ++ decimal r) ∷ (codes "lower_" ++ decimal r) ∷ (codes "upper_" ++ decimal r) ∷ (codes "room_" ++ decimal r) ∷ []

abbrev pub name_cells : ℕ → List (List ℕ)
name_cells resources =
    codes "period" ∷ codes "blocks" ∷ codes "value" ∷ codes "cumulative" ∷ flat_map names_of (range_with_len 0 resources)

-- ---- the text

-- the names of the columns, and a row for each period
abbrev pub table_text : Pit → (ℕ → Option ℕ) → (ℕ → ℕ → Option ℤ) → List ℕ
table_text pit schedule limit = csv_text (name_cells pit.resources ∷ map row_cells (rows_of pit schedule limit))

-- of what the commits leave
abbrev pub table_answer : Pit → List Commit → List ℕ × Status
table_answer pit commits = (table_text pit (held_period commits) (limit_of pit commits), Fine)
