-- How planners' sessions ended, in lines.
use Rattle.std.specs.Prelude.{ℕ, Bool, true, false, if◌then◌else◌, List, ◌++◌, Result, Ok, Err, codes}
use Rattle.std.specs.List.{flat_map, list_all}
use Rattle.pit_model.specs.Pit.{Pit}
use Rattle.pit_plan.specs.Schedule.{Commit, held_period, value_of}
use Rattle.pit_plan.specs.Shortfalls.{shortfalls_of}
use Rattle.pit_plan.specs.declared.short.Short.{Short}
use Rattle.pit_step.specs.LineTexts.{value_text, shorts_text}
use Rattle.pit_step.specs.RefusalText.{numbered_text}
use Rattle.pit_step.specs.declared.fault.CliFault.{CliFault}
use Rattle.pit_step.specs.declared.fault.CliFault.TheVariants.{CannotWrite, Stopped}
use Rattle.pit_step.specs.declared.status.Status.{Status}
use Rattle.pit_output.specs.Outputs.{status_of_shorts}
use Rattle.pit_serve.specs.declared.session_end.SessionEnd.{SessionEnd}
use Rattle.pit_serve.specs.declared.session_end.SessionEnd.TheVariants as ending
use Rattle.pit_live.specs.declared.sitting.Sitting.{Sitting}

-- ---- lines

abbrev pub end_words : SessionEnd → List ℕ
end_words ending.Input = codes " ended input\n"
end_words ending.Output = codes " ended output\n"
end_words ending.NoStream = codes " ended no stream\n"
end_words ending.NoThread = codes " ended no thread\n"
end_words ending.NoMemory = codes " ended no memory\n"

-- `planner K requests N entries N ended WHY`, and a line feed
unfoldable pub sitting_text : Sitting → List ℕ
sitting_text sitting =
    numbered_text (codes "planner ") sitting.planner ++ (numbered_text (codes " requests ") sitting.replies
    ++ (numbered_text (codes " entries ") sitting.entries ++ end_words sitting.ended))

unfoldable pub sittings_text : List Sitting → List ℕ
sittings_text sittings = flat_map sitting_text sittings

-- the lines of the sessions, the value of what the commits leave, and the shortfalls
abbrev pub live_report : Pit → List Commit → List Sitting → List ℕ
live_report pit commits sittings =
    sittings_text sittings ++ (codes "value " ++ (value_text (value_of pit (held_period commits)) ++ shorts_text (shortfalls_of pit (held_period commits))))

-- ---- ends

-- by the end of its input
abbrev pub ended_by_input : SessionEnd → Bool
ended_by_input ending.Input = true
ended_by_input ending.Output = false
ended_by_input ending.NoStream = false
ended_by_input ending.NoThread = false
ended_by_input ending.NoMemory = false

abbrev pub all_by_input : List Sitting → Bool
all_by_input sittings = list_all (λ sitting. ended_by_input sitting.ended) sittings

-- The journal or standard error failed; else some session ended otherwise than by its input; else by the shortfalls.
abbrev pub live_end : Bool → List Sitting → List Short → Result Status CliFault
live_end is_written sittings shorts =
    if is_written then (if all_by_input sittings then Ok (status_of_shorts shorts) else Err Stopped) else Err CannotWrite
