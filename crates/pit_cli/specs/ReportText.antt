-- The lines that tell how a run ended.
use Rattle.std.specs.Prelude.{ℕ, ◌+◌, List, [], ◌∷◌, ◌++◌, codes}
use Rattle.std.specs.List.{flat_map}
use Rattle.pit_job.specs.declared.outcome.Outcome.{Outcome}
use Rattle.pit_job.specs.declared.outcome.Outcome.TheVariants as outcome
use Rattle.pit_job.specs.declared.outcome.RunEnd.{RunEnd}
use Rattle.pit_job.specs.declared.outcome.RunEnd.TheVariants as end
use Rattle.pit_run.specs.Reports.{RunState}
use Rattle.pit_step.specs.RefusalText.{numbered_text, refused_text}

abbrev pub outcome_text : Outcome → List ℕ
outcome_text (outcome.Committed number tries) = numbered_text (codes "committed ") number ++ numbered_text (codes " tries ") tries
outcome_text (outcome.Withdrawn tries) = numbered_text (codes "withdrawn tries ") tries
outcome_text (outcome.Refused why tries) = codes "refused " ++ (refused_text why ++ numbered_text (codes " tries ") tries)

-- `planner K job J WORDS`, and a line feed
unfoldable pub job_text : ℕ → ℕ → Outcome → List ℕ
job_text planner job what = numbered_text (codes "planner ") planner ++ (numbered_text (codes " job ") job ++ (codes " " ++ (outcome_text what ++ codes "\n")))

-- the outcomes of a planner's jobs, of which the first has this number
unfoldable pub jobs_text : ℕ → ℕ → List Outcome → List ℕ
jobs_text planner job [] = []
jobs_text planner job (what ∷ more) = job_text planner job what ++ jobs_text planner (job + 1) more

unfoldable pub stopped_text : ℕ → ℕ → List ℕ → List ℕ
stopped_text planner job why = numbered_text (codes "planner ") planner ++ (numbered_text (codes " stopped at job ") job ++ why)

-- where the run isn't whole
unfoldable pub run_end_text : ℕ → RunEnd → List ℕ
run_end_text planner end.Whole = []
run_end_text planner (end.Full job) = stopped_text planner job (codes ": full\n")
run_end_text planner (end.NoMemory job) = stopped_text planner job (codes ": no memory\n")
run_end_text planner (end.NoEntry job) = stopped_text planner job (codes ": no entry\n")
run_end_text planner end.NoThread = numbered_text (codes "planner ") planner ++ codes " not started\n"

abbrev pub run_text : RunState → List ℕ
run_text run = jobs_text run.planner 1 run.jobs ++ run_end_text run.planner run.ended

unfoldable pub runs_text : List RunState → List ℕ
runs_text runs = flat_map run_text runs
