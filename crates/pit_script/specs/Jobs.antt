-- The jobs that a script stands for.
use Rattle.std.specs.Prelude.{ℕ, List, [], ◌∷◌, ◌++◌, length, Result, Option, Some, None, is_some, unwrap_or, slice_index_or, if◌then◌else◌}
use Rattle.std.specs.List.{fold}
use Rattle.pit_model.specs.Pit.{Pit}
use Rattle.pit_script.specs.Lines.{line_fact}
use Rattle.pit_script.specs.declared.error.ScriptFault.{ScriptFault}
use Rattle.pit_script.specs.declared.error.ScriptFault.TheVariants.{Unended}
use Rattle.pit_script.specs.declared.fact.ScriptFact.{ScriptFact}
use Rattle.pit_script.specs.declared.fact.ScriptFact.TheVariants.{Begin, Does, Ends}
use Rattle.pit_script.specs.declared.step.JobEnd.{JobEnd}
use Rattle.pit_script.specs.declared.step.JobEnd.TheVariants.{Commit}
use Rattle.pit_script.specs.declared.step.Step.{Step}

pub record Job : Type 0 where
  pub steps : List Step
  pub end : JobEnd

abbrev pub empty_job : Job
empty_job = record { steps = []; end = Commit }

abbrev pub job_at : List Job → ℕ → Job
job_at jobs i = slice_index_or jobs i empty_job

-- the jobs that have ended, and the steps of the one that is open, if one is
pub record Progress : Type 0 where
  pub jobs : List Job
  pub current : Option (List Step)

abbrev pub no_job : Progress
no_job = record { jobs = []; current = None }

-- what a line adds
abbrev pub with_fact : Progress → ScriptFact → Progress
with_fact at Begin = record { jobs = at.jobs; current = Some [] }
with_fact at (Does step) = record { jobs = at.jobs; current = Some (unwrap_or at.current [] ++ step ∷ []) }
with_fact at (Ends end) = record { jobs = at.jobs ++ record { steps = unwrap_or at.current []; end = end } ∷ []; current = None }

unfoldable pub progress_of : List ScriptFact → Progress
progress_of facts = fold with_fact no_job facts

abbrev pub jobs_of : List ScriptFact → List Job
jobs_of facts = (progress_of facts).jobs

-- a line of a script, by what the lines before it left
abbrev pub fact_in : Pit → Progress → List (List ℕ) → Result ScriptFact ScriptFault
fact_in pit at fields = line_fact pit (is_some at.current) (length at.jobs) fields

abbrev pub script_line : Pit → List ScriptFact → List (List ℕ) → Result ScriptFact ScriptFault
script_line pit earlier fields = fact_in pit (progress_of earlier) fields

-- the text may end where no job is open
abbrev pub script_end : List ScriptFact → Option ScriptFault
script_end facts = if is_some (progress_of facts).current then Some Unended else None
