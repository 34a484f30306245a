-- What is answered under the lock.
use Rattle.std.specs.Prelude.{◌≡◌, ℕ, ℤ, List, length}
use mathlib.Core.List.{IsPrefix}
use Rattle.pit_model.specs.Pit.{Pit}
use Rattle.pit_plan.specs.Schedule.{held_period, value_of}
use Rattle.pit_desk.specs.History.{Answered, commits_of}

-- of a history that begins with what was seen, the number of commits, and the value of what they leave
pub record IsLockedValue (pit : Pit) (seen : List Answered) (commits : ℕ) (value : ℤ) : Type 0 where
  pub history : List Answered
  pub begins : IsPrefix seen history
  pub commits_is : commits ≡ length (commits_of history)
  pub value_is : value ≡ value_of pit (held_period (commits_of history))
