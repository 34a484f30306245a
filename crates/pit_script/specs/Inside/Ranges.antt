-- What is in the ranges of a pit while a script is read.
use Rattle.std.specs.Prelude.{unwrap_or, []}
use Rattle.std.specs.List.{All}
use Rattle.pit_model.specs.Pit.{Pit}
use Rattle.pit_script.specs.Jobs.{Progress}
use Rattle.pit_script.specs.Ranges.{IsStepIn, AreJobsIn}

pub record IsProgressIn (pit : Pit) (at : Progress) : Type 0 where
  pub jobs : AreJobsIn pit at.jobs
  pub steps : All (IsStepIn pit) (unwrap_or at.current [])
