-- The periods of blocks, as a list.
use Rattle.std.specs.Prelude.{◌≡◌, ℕ, ◌<◌, List, length, Option, IfSome}
use Rattle.pit_model.specs.Pit.{Pit}
use Rattle.pit_plan.specs.Schedule.{Commit, by_block, held_period}

-- each of so many blocks has the period, or none, that the commits leave
pub record AreLeft (blocks : ℕ) (commits : List Commit) (periods : List (Option ℕ)) : Type 0 where
  pub count : length periods ≡ blocks
  pub each : (b : ℕ) → b < blocks → by_block periods b ≡ held_period commits b

-- each block of the pit has a period of the pit, or none
abbrev pub AreInRange : Pit → List (Option ℕ) → Type 0
AreInRange pit periods = (b : ℕ) → b < pit.blocks → IfSome (by_block periods b) (λ t. t < pit.periods)
