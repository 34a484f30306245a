-- Revisions, by the cells of their resources and periods.
use Rattle.std.specs.Prelude.{ℕ, ℤ, List, map, Option}
use Rattle.pit_model.specs.Pit.{Pit, cell_of}
use Rattle.pit_plan.specs.Schedule.{Revisions}

-- revisions, each of a cell
abbrev pub by_cell : Pit → Revisions → List (ℕ × Option ℤ)
by_cell pit revises = map (λ v. (cell_of pit v.0.0 v.0.1, v.1)) revises
