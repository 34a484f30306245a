-- What planners' scripts are done with.
use Rattle.std.specs.Prelude.{ℕ, List}
use Rattle.pit_script.specs.Scripts.{ScriptState}

pub record RunnerState : Type 0 where
  pub retries : ℕ
  pub scripts : List ScriptState
