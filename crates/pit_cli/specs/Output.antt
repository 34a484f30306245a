-- What `plan` writes of a run, and how it ends.
use Rattle.std.specs.Prelude.{ℕ, Bool, true, false, if◌then◌else◌, List, ◌++◌, ◌&&◌, not, Option, IsSome, Result, Ok, Err, All, codes}
use Rattle.std.specs.List.{list_all}
use Rattle.pit_model.specs.Pit.{Pit}
use Rattle.pit_plan.specs.Schedule.{Commit, held_period, value_of}
use Rattle.pit_plan.specs.Shortfalls.{shortfalls_of}
use Rattle.pit_plan.specs.declared.short.Short.{Short}
use Rattle.pit_desk.specs.History.{Answered, commits_of}
use Rattle.pit_job.specs.declared.outcome.Outcome.{Outcome}
use Rattle.pit_job.specs.declared.outcome.Outcome.TheVariants.{Refused}
use Rattle.pit_job.specs.declared.outcome.RunEnd.{RunEnd}
use Rattle.pit_job.specs.declared.outcome.RunEnd.TheVariants as end
use Rattle.pit_run.specs.Reports.{RunState}
use Rattle.pit_cli.specs.ReportText.{runs_text}
use Rattle.pit_step.specs.LineTexts.{value_text, shorts_text, left_text}
use Rattle.pit_step.specs.Steps.{Step, in_turn, pass_step, may_step, run_step}
use Rattle.pit_step.specs.Devices.{Writing, write_step}
use Rattle.pit_output.specs.Outputs.{new_line, status_of_shorts, Keeping, Outputs, outputs_run, IsUnwritten}
use Rattle.pit_lines.specs.Ranges.{IsInRange}
use Rattle.pit_lines.specs.Texts.{history_text}
use Rattle.pit_step.specs.declared.fault.CliFault.{CliFault}
use Rattle.pit_step.specs.declared.fault.CliFault.TheVariants.{NoMemory, Stopped}
use Rattle.pit_step.specs.declared.status.Status.{Status}
use Rattle.pit_step.specs.declared.status.Status.TheVariants.{Failed}
use Rattle.pit_opening.specs.Beginnings.{Begun, is_carried_on, is_unbegun}
use Rattle.pit_cli.specs.declared.plan_options.PlanOptions.{PlanOptions}
use Rattle.pit_cli.specs.Texts.{Texts}
use Rattle.pit_cli.specs.Planning.{Ran, plan_judged, planners_step}

abbrev pub is_whole : RunEnd → Bool
is_whole end.Whole = true
is_whole (end.Full job) = false
is_whole (end.NoMemory job) = false
is_whole (end.NoEntry job) = false
is_whole end.NoThread = false

abbrev pub all_whole : List RunState → Bool
all_whole runs = list_all (λ run. is_whole run.ended) runs

-- a job was not refused
abbrev pub was_granted : Outcome → Bool
was_granted (Refused why tries) = false
was_granted other = true

abbrev pub all_granted : List RunState → Bool
all_granted runs = list_all (λ run. list_all was_granted run.jobs) runs

-- a load falls short, or, where that counts, a job was refused
abbrev pub status_by : Bool → Bool → List Short → Status
status_by is_strict are_granted shorts = if is_strict && not are_granted then Failed else status_of_shorts shorts

-- each planner did all of its script, and it went well or not; or a planner stopped
abbrev pub ended_of : Bool → List RunState → List Short → Result Status CliFault
ended_of is_strict runs shorts = if all_whole runs then Ok (status_by is_strict (all_granted runs) shorts) else Err Stopped

-- the lines of the runs, the value of what the commits leave, and the shortfalls
abbrev pub report_text : Pit → List Commit → List RunState → List ℕ
report_text pit commits runs =
    runs_text runs ++ (codes "value " ++ (value_text (value_of pit (held_period commits)) ++ shorts_text (shortfalls_of pit (held_period commits))))

-- a report's text is gathered, or there is no memory for it; and then it is written
abbrev pub report_step : List ℕ → Writing → Step CliFault (Unit {0}) (Unit {0})
report_step text out = in_turn (may_step NoMemory) (write_step out (λ _. text) (λ _. tt {0}))

-- what is written of a closed desk and of the runs, where a history is new or not, and how it ends
abbrev pub outputs_of : Bool → Ran → Outputs
outputs_of is_new ran = record {
  solution = left_text ran.0.plan.pit (commits_of ran.0.history);
  report = new_line is_new ++ report_text ran.0.plan.pit (commits_of ran.0.history) ran.1;
  history = history_text ran.0.history;
}

abbrev pub ran_end : Bool → Ran → Result Status CliFault
ran_end is_strict ran = ended_of is_strict ran.1 (shortfalls_of ran.0.plan.pit (held_period (commits_of ran.0.history)))

-- where there is an output for the history, its numbers are in the ranges of their types
abbrev pub IsKeptInRange : Option Keeping → List Answered → Type 0
IsKeptInRange kept history = IsSome kept → All IsInRange history

abbrev pub range_step : Option Keeping → Step CliFault Ran Ran
range_step kept = pass_step (λ ran. IsKeptInRange kept ran.0.history) (λ ran fault. ⊥)

-- the outputs are gathered, or there is no memory for them; and then they are written
abbrev pub ran_run : Begun → Bool → Writing → Writing → Option Keeping → Ran → Step CliFault (Unit {0}) Status
ran_run beginning is_strict out lines kept ran =
    in_turn (may_step NoMemory) (outputs_run (is_carried_on beginning) (outputs_of (is_unbegun beginning) ran) (ran_end is_strict ran) out lines kept)

-- What `plan` does: the judgements of the texts, the planners' run, and the outputs.
abbrev pub plan_run : Texts → PlanOptions → Writing → Writing → Option Keeping → Step CliFault (Unit {0}) Status
plan_run texts options out lines kept =
    in_turn (plan_judged texts)
    (in_turn (planners_step options) (in_turn (range_step kept) (run_step (ran_run texts.beginning options.is_strict out lines kept) (IsUnwritten out lines kept))))
