-- What runs come to, job by job.
use Rattle.std.specs.Prelude.{◌≡◌, ℕ, ◌+◌, ◌<◌, ◌==◌, true, List, Option, slice_get, Some, is_some, filter, length}
use Rattle.pit_model.specs.Pit.{Pit}
use Rattle.pit_plan.specs.Schedule.{Commit, write_of}
use Rattle.pit_desk.specs.History.{Answered, commit_of, commits_of}
use Rattle.pit_script.specs.Jobs.{Job}
use Rattle.pit_job.specs.Effect.{effect, changes, whole}
use Rattle.pit_job.specs.Outcomes.{IsCallOf}
use Rattle.pit_job.specs.declared.outcome.Outcome.{Outcome}
use Rattle.pit_job.specs.declared.outcome.RunEnd.{RunEnd}
use Rattle.pit_job.specs.declared.outcome.RunEnd.TheVariants as end

-- the entries of a job
abbrev pub of_job : ℕ → List Answered → List Answered
of_job n es = filter (λ e. e.call.job == n) es

-- its job is one of these, the first of which has the number n, and its call is that job's
pub record HasOwnEffect (pit : Pit) (n : ℕ) (jobs : List Job) (e : Answered) : Type 0 where
  pub place : ℕ
  pub task : Job
  pub number : e.call.job ≡ n + place
  pub at : slice_get jobs place ≡ Some task
  pub call : IsCallOf pit task e.call

-- Whole has an outcome for every job, and an end that names a job has one for each job before it
abbrev pub EndsAfter : ℕ → List Job → List Outcome → RunEnd → Type 0
EndsAfter n jobs os end.Whole = length os ≡ length jobs
EndsAfter n jobs os (end.Full job) = (job ≡ n + length os) × (length os < length jobs)
EndsAfter n jobs os (end.NoMemory job) = (job ≡ n + length os) × (length os < length jobs)
EndsAfter n jobs os (end.NoEntry job) = (job ≡ n + length os) × (length os < length jobs)
EndsAfter n jobs os end.NoThread = ⊥

-- its job is one of the script's, and it wrote that job's effect over the schedule
pub record WroteEffect (pit : Pit) (script : List Job) (schedule : ℕ → Option ℕ) (e : Answered) : Type 0 where
  pub place : ℕ
  pub task : Job
  pub number : e.call.job ≡ 1 + place
  pub at : slice_get script place ≡ Some task
  pub wrote : effect pit task (whole schedule) ≡ changes (commit_of e.call)

-- the commit of this number, counted from 1, is one of these entries and writes the block
pub record IsWriter (history : List Answered) (version block : ℕ) : Type 0 where
  pub place : ℕ
  pub commit : Commit
  pub number : version ≡ 1 + place
  pub at : slice_get (commits_of history) place ≡ Some commit
  pub writes : is_some (write_of commit block) ≡ true
