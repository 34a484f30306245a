-- What contracts see of a planner's view.
use Rattle.std.specs.Prelude.{ℕ, List}
use Rattle.pit_desk.specs.History.{Answered}

-- the entries of the history that the planner has seen, and how many its share counts
pub record Sight : Type 0 where
  pub seen : List Answered
  pub amount : ℕ
