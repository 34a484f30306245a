-- Plans that some commits leave.
use Rattle.std.specs.Prelude.{List}
use Rattle.pit_plan.specs.Schedule.{Commit}
use Rattle.pit_plan.specs.Standing.{Standing, IsPlanOf}

pub record IsOfCommits (plan : Standing) : Type 0 where
  pub commits : List Commit
  pub leaves : IsPlanOf plan commits
