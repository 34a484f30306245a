-- The run of `table`.
use Rattle.pit_step.specs.declared.fault.CliFault.{CliFault}
use Rattle.pit_step.specs.declared.input.Input.TheVariants.{Schedule}
use Rattle.pit_step.specs.declared.status.Status.{Status}
use Rattle.pit_step.specs.Steps.{Step, in_turn}
use Rattle.pit_step.specs.Devices.{Reading, Writing, answer_step}
use Rattle.pit_step.specs.Inputs.{model_step}
use Rattle.pit_state.specs.Views.{view_step}
use Rattle.pit_table.specs.CsvText.{table_answer}

-- the model, the schedule, and then the table is written
abbrev pub table_run : Reading → Reading → Writing → Step CliFault (Unit {0}) Status
table_run model schedule out = in_turn (model_step model) (in_turn (view_step table_answer Schedule schedule) (answer_step out))
