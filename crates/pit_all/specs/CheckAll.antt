-- The run of `check --all`.
use Rattle.pit_step.specs.declared.fault.CliFault.{CliFault}
use Rattle.pit_step.specs.declared.input.Input.TheVariants.{Schedule}
use Rattle.pit_step.specs.declared.status.Status.{Status}
use Rattle.pit_step.specs.Steps.{Step, in_turn}
use Rattle.pit_step.specs.Devices.{Reading, Writing, answer_step}
use Rattle.pit_step.specs.Inputs.{ordered_pit_step}
use Rattle.pit_state.specs.Views.{view_step}
use Rattle.pit_all.specs.AllText.{all_answer}

-- the model, the precedences, the schedule, and then all that was found is written
abbrev pub check_all_run : Reading → Reading → Reading → Writing → Step CliFault (Unit {0}) Status
check_all_run model precedence schedule out =
    in_turn (ordered_pit_step model precedence) (in_turn (view_step all_answer Schedule schedule) (answer_step out))
