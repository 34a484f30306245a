-- How a planner's run is put together.
use Rattle.std.specs.Prelude.{ℕ, List}
use Rattle.pit_job.specs.declared.outcome.Outcome.{Outcome}
use Rattle.pit_job.specs.declared.outcome.RunEnd.{RunEnd}
use Rattle.pit_run.specs.Reports.{RunState}

abbrev pub run_of : ℕ → List Outcome → RunEnd → RunState
run_of planner jobs ended = record { planner = planner; jobs = jobs; ended = ended }
