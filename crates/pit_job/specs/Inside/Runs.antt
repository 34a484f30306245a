-- What becomes of a planner's script, job by job.
use Rattle.std.specs.Prelude.{ℕ, ◌-◌, ◌≤◌, List, ◌++◌, length, drop, Result, Ok, Err}
use Rattle.pit_model.specs.Pit.{Pit}
use Rattle.pit_desk.specs.History.{Answered}
use Rattle.pit_job.specs.declared.outcome.JobStop.{JobStop}
use Rattle.pit_job.specs.declared.outcome.JobStop.TheVariants as stop
use Rattle.pit_script.specs.Jobs.{Job, job_at}
use Rattle.pit_job.specs.declared.outcome.Outcome.{Outcome}
use Rattle.pit_job.specs.declared.outcome.RunEnd.{RunEnd}
use Rattle.pit_job.specs.declared.outcome.RunEnd.TheVariants as end
use Rattle.pit_job.specs.Runs.{Ran, LeftOff, RanFrom}
use Rattle.pit_job.specs.Inside.Outcomes.{IsStop}

-- a job of a script by its number, counted from 1
abbrev pub IsJobNumber : List Job → ℕ → Type 0
IsJobNumber jobs n = (1 ≤ n) × (n ≤ length jobs)

abbrev pub job_numbered : List Job → ℕ → Job
job_numbered jobs n = job_at jobs (n - 1)

abbrev pub RanJob : Pit → ℕ → Job → ℕ → ℕ → List Answered → List Answered → List Answered → Result Outcome JobStop → Type 0
RanJob pit max_entries task retries n old new es (Ok o) = Ran pit task retries n old new es o
RanJob pit max_entries task retries n old new es (Err why) = LeftOff pit task retries n old new es × IsStop pit max_entries task.steps new why

abbrev pub end_of : JobStop → ℕ → RunEnd
end_of stop.Full n = end.Full n
end_of stop.NoMemory n = end.NoMemory n
end_of stop.NoEntry n = end.NoEntry n

-- whatever the jobs from the i-th on, which has the number n, come to, all come to this and then that
abbrev pub RanUpTo : Pit → ℕ → ℕ → List Answered → List Answered → List Job → ℕ → ℕ → List Answered → List Outcome → Type 0
RanUpTo pit max_entries retries old mid jobs i n es os =
    (new later : List Answered) (more : List Outcome) (ended : RunEnd) → RanFrom pit max_entries retries mid new n (drop i jobs) later more ended
    → RanFrom pit max_entries retries old new 1 jobs (es ++ later) (os ++ more) ended
