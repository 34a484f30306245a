-- What is said of a schedule: a text and a status of its pit and its commits.
use Rattle.std.specs.Prelude.{◌≡◌, ℕ, List}
use Rattle.pit_model.specs.Pit.{Pit}
use Rattle.pit_plan.specs.Schedule.{Commit}
use Rattle.pit_step.specs.declared.input.Input.{Input}
use Rattle.pit_step.specs.declared.fault.CliFault.{CliFault}
use Rattle.pit_step.specs.declared.status.Status.{Status}
use Rattle.pit_step.specs.Steps.{Step}
use Rattle.pit_step.specs.Devices.{Reading, input_step}
use Rattle.pit_state.specs.States.{IsStateOf, IsStateFault}

-- the answer is that of the commits that the text stands for
pub record IsViewed (answer_of : Pit → List Commit → List ℕ × Status) (pit : Pit) (text : List ℕ) (answer : List ℕ × Status) : Type 0 where
  pub commits : List Commit
  pub stands : IsStateOf pit text commits
  pub says : answer ≡ answer_of pit commits

abbrev pub view_step : (Pit → List Commit → List ℕ × Status) → Input → Reading → Step CliFault Pit (List ℕ × Status)
view_step answer_of file schedule = input_step file schedule (IsViewed answer_of) (IsStateFault file)
