-- The run of `value`.
use Rattle.std.specs.Prelude.{◌≡◌, ℕ, List, [], ◌∷◌}
use Rattle.pit_model.specs.Pit.{Pit}
use Rattle.pit_plan.specs.Schedule.{commit_of_schedule, held_period, value_of}
use Rattle.pit_step.specs.declared.fault.CliFault.{CliFault}
use Rattle.pit_step.specs.declared.input.Input.TheVariants.{Solution}
use Rattle.pit_step.specs.declared.status.Status.{Status}
use Rattle.pit_step.specs.declared.status.Status.TheVariants.{Fine}
use Rattle.pit_step.specs.LineTexts.{value_text}
use Rattle.pit_step.specs.Steps.{Step, in_turn}
use Rattle.pit_step.specs.Devices.{Reading, Writing, input_step, write_step}
use Rattle.pit_step.specs.Inputs.{IsSolutionOf, IsSolutionFault, model_step}

-- a solution stands for a schedule of the pit, and the text is the value of its one commit
pub record IsValued (pit : Pit) (bytes text : List ℕ) : Type 0 where
  pub schedule : List (ℕ × ℕ)
  pub stands : IsSolutionOf pit bytes schedule
  pub says : text ≡ value_text (value_of pit (held_period (commit_of_schedule schedule ∷ [])))

abbrev pub value_step : Reading → Step CliFault Pit (List ℕ)
value_step solution = input_step Solution solution IsValued (IsSolutionFault Solution)

-- a text is written of which nothing is wrong
abbrev pub fine_step : Writing → Step CliFault (List ℕ) Status
fine_step out = write_step out (λ text. text) (λ text. Fine)

-- the model, the solution, and then the value is written
abbrev pub value_run : Reading → Reading → Writing → Step CliFault (Unit {0}) Status
value_run model solution out = in_turn (model_step model) (in_turn (value_step solution) (fine_step out))
