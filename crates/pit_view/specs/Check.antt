-- The run of `check`.
use Rattle.std.specs.Prelude.{◌≡◌, ℕ, List, [], ◌∷◌, Option}
use Rattle.pit_model.specs.Pit.{Pit}
use Rattle.pit_plan.specs.Schedule.{Commit, commit_of_schedule, held_period, value_of}
use Rattle.pit_plan.specs.Breaches.{IsBreachOf}
use Rattle.pit_plan.specs.Shortfalls.{shortfalls_of}
use Rattle.pit_plan.specs.declared.breach.Breach.{Breach}
use Rattle.pit_step.specs.declared.fault.CliFault.{CliFault}
use Rattle.pit_step.specs.declared.input.Input.TheVariants.{Solution}
use Rattle.pit_step.specs.declared.status.Status.{Status}
use Rattle.pit_step.specs.Steps.{Step, in_turn}
use Rattle.pit_step.specs.Devices.{Reading, Writing, input_step, answer_step}
use Rattle.pit_step.specs.Inputs.{IsSolutionOf, IsSolutionFault, ordered_pit_step}
use Rattle.pit_view.specs.CheckText.{check_text, check_status}

-- the text and the status say what the commits are worth, break and fall short of
pub record Checks (pit : Pit) (commits : List Commit) (text : List ℕ) (status : Status) : Type 0 where
  pub breach : Option Breach
  pub first : IsBreachOf pit commits breach
  pub text_is : text ≡ check_text (value_of pit (held_period commits)) breach (shortfalls_of pit (held_period commits))
  pub status_is : status ≡ check_status breach (shortfalls_of pit (held_period commits))

-- a solution stands for a schedule of the pit, and text and status are those of its one commit
pub record IsChecked (pit : Pit) (bytes : List ℕ) (answer : List ℕ × Status) : Type 0 where
  pub schedule : List (ℕ × ℕ)
  pub stands : IsSolutionOf pit bytes schedule
  pub checks : Checks pit (commit_of_schedule schedule ∷ []) answer.0 answer.1

abbrev pub check_step : Reading → Step CliFault Pit (List ℕ × Status)
check_step solution = input_step Solution solution IsChecked (IsSolutionFault Solution)

-- the model, the precedences, the solution, and then what was found is written
abbrev pub check_run : Reading → Reading → Reading → Writing → Step CliFault (Unit {0}) Status
check_run model precedence solution out = in_turn (ordered_pit_step model precedence) (in_turn (check_step solution) (answer_step out))
