-- What a plan keeps of its fields.
use Rattle.std.specs.Prelude.{◌≡◌, ℕ, ◌*◌, ℤ, List, length, Option, slice_set, fold}
use Rattle.pit_model.specs.Pit.{Pit, IsSound}
use Rattle.pit_plan.specs.Inside.Totals.{Tallied, IsTally}

-- a list by number, in which each number that a pair names has the value of that pair
unfoldable pub with_writes : {X Y : Type 0} → (ℕ × Y → X) → List X → List (ℕ × Y) → List X
with_writes value xs writes = fold (λ ys w. slice_set ys w.0 (value w)) xs writes

-- a schedule with its totals, a version for each block, and a limit or none for each cell
pub record IsPlanKept (pit : Pit) (tally : Tallied) (numbers : List ℕ) (limits : List (Option ℤ)) : Type 0 where
  pub sound : IsSound pit
  pub tally_is : IsTally pit tally
  pub each_version : length numbers ≡ pit.blocks
  pub each_limit : length limits ≡ pit.periods * pit.resources
