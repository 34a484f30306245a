-- What a reader keeps of the lines of a solution.
use Rattle.std.specs.Prelude.{◌≡◌, ◌⊎◌, ℕ, List, [], length, Option, None, slice_index_or, ◌<◌}
use Rattle.pit_text.specs.Solution.{period_in}

-- one period or none for each block, as the lines say; or nothing, where they give none
pub record AreSlots (blocks : ℕ) (facts : List (Option (ℕ × ℕ))) (slots : List (Option ℕ)) : Type 0 where
  pub count : (slots ≡ []) ⊎ (length slots ≡ blocks)
  pub each : (b : ℕ) → b < blocks → slice_index_or slots b None ≡ period_in facts b
