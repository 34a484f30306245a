-- What is so of the commits of each prefix of a history, and what one entry more is.
use Rattle.std.specs.Prelude.{◌≡◌, List, [], ◌∷◌, ◌++◌, All}
use Rattle.pit_model.specs.Fitting.{Fits}
use Rattle.pit_model.specs.Pit.{Pit}
use Rattle.pit_plan.specs.Schedule.{Commit}
use Rattle.pit_desk.specs.History.{Answered, commits_by}
use Rattle.pit_desk.specs.Legal.{EachIsGood}

-- what each prefix of the commits leaves is good under the limits then in force, and the writes of each fit the pit
pub record AreLawful (pit : Pit) (commits : List Commit) : Type 0 where
  pub good : EachIsGood pit commits
  pub fit : All (λ commit. Fits pit.blocks pit.periods commit.writes) commits

-- the history has one entry more than before, which made these commits
pub record IsLast (before history : List Answered) (commits : List Commit) : Type 0 where
  pub entry : Answered
  pub added : history ≡ before ++ entry ∷ []
  pub made : commits_by entry ≡ commits
