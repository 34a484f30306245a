-- What is told of a resource in a period.
use Rattle.std.specs.Prelude.{ℕ, List}
use Rattle.pit_model.specs.Pit.{Pit}
use Rattle.pit_plan.specs.Schedule.{Commit, held_period, limit_of, load_of}
use Rattle.pit_diff.specs.DiffText.{limit_change, load_change}
use Rattle.pit_diff.specs.declared.cells.Quantity.{Quantity}
use Rattle.pit_diff.specs.declared.cells.Quantity.TheVariants.{Limit, Load}

-- of what two lists of commits leave
abbrev pub cell_change : Quantity → Pit → List Commit → List Commit → ℕ → ℕ → List ℕ
cell_change Limit pit before after = λ r t. limit_change r t (limit_of pit before r t) (limit_of pit after r t)
cell_change Load pit before after = λ r t. load_change r t (load_of pit (held_period before) r t) (load_of pit (held_period after) r t)
