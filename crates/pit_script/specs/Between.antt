-- A script written out from its jobs.
use Rattle.std.specs.Prelude.{List, [], ◌∷◌, ◌++◌, map, flat_map}
use Rattle.pit_script.specs.Jobs.{Job}
use Rattle.pit_script.specs.declared.fact.ScriptFact.{ScriptFact}
use Rattle.pit_script.specs.declared.fact.ScriptFact.TheVariants.{Begin, Does, Ends}

-- the lines of a job: its begin, a line for each step, its end
abbrev pub lines_of_job : Job → List ScriptFact
lines_of_job job = Begin ∷ map Does job.steps ++ Ends job.end ∷ []

-- those of jobs, one after another
abbrev pub lines_of_jobs : List Job → List ScriptFact
lines_of_jobs jobs = flat_map lines_of_job jobs
