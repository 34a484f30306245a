-- What the threads of all planners share.
use Rattle.std.specs.Prelude.{ℕ, List}
use Rattle.pit_script.specs.Jobs.{Job}

pub record SharedState : Type 0 where
  pub retries : ℕ
  pub scripts : List (List Job)
