-- The run of `diff`.
use Rattle.std.specs.Prelude.{ℕ, List}
use Rattle.pit_model.specs.Pit.{Pit}
use Rattle.pit_plan.specs.Schedule.{Commit}
use Rattle.pit_step.specs.declared.fault.CliFault.{CliFault}
use Rattle.pit_step.specs.declared.input.Input.TheVariants.{Old, New}
use Rattle.pit_step.specs.declared.status.Status.{Status}
use Rattle.pit_step.specs.Steps.{Step, in_turn, beside}
use Rattle.pit_step.specs.Devices.{Reading, Writing, input_step, answer_step}
use Rattle.pit_step.specs.Inputs.{model_step}
use Rattle.pit_state.specs.States.{IsStateFault, state_step}
use Rattle.pit_state.specs.Views.{IsViewed}
use Rattle.pit_diff.specs.DiffText.{diff_answer}

-- the new schedule, of which is written what differs from what the commits of the old one leave
abbrev pub new_step : Reading → Step CliFault (Pit × List Commit) (List ℕ × Status)
new_step new = input_step New new (λ given. IsViewed (λ pit commits. diff_answer pit given.1 commits) given.0) (λ given. IsStateFault New given.0)

-- the old schedule, the new one, and then what differs is written
abbrev pub schedules_run : Reading → Reading → Writing → Step CliFault Pit Status
schedules_run old new out = in_turn (beside (state_step Old old)) (in_turn (new_step new) (answer_step out))

-- the model, and then these
abbrev pub diff_run : Reading → Reading → Reading → Writing → Step CliFault (Unit {0}) Status
diff_run model old new out = in_turn (model_step model) (schedules_run old new out)
