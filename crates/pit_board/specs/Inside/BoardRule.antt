-- The rule of the board: what is published begins with whatever anybody has seen. Who gave away what it had seen has seen nothing.
use Rattle.std.specs.Prelude.{◌≡◌, ℕ, List}
use mathlib.Core.List.{IsPrefix}
use mathlib.Core.Option.{some}
use lib.ListN.{get_elem?}
use Rattle.pit_plan.specs.Schedule.{Commit}

-- the published commits begin with the opening ones, which a new place has seen, and with what each place or note has seen
pub record BeginsWithSeen (opening published : List Commit) (seen : List (List Commit)) : Type 0 where
  pub begins : IsPrefix opening published
  pub each : (at : ℕ) (commits : List Commit) → get_elem? seen at ≡ some commits → IsPrefix commits published
