-- How jobs are kept: the steps of all jobs in one list, and of each job where it ends in it, and how.
use Rattle.std.specs.Prelude.{◌≡◌, ℕ, ◌+◌, ◌-◌, ◌≤◌, Bool, false, List, [], ◌∷◌, length, take, drop, slice_index_or, nat_eq, Option, Some, None, if◌then◌else◌}
use Rattle.pit_script.specs.Jobs.{Job, Progress}
use Rattle.pit_script.specs.declared.step.JobEnd.{JobEnd}
use Rattle.pit_script.specs.declared.step.JobEnd.TheVariants.{Commit}
use Rattle.pit_script.specs.declared.step.Step.{Step}
use Rattle.pit_script.specs.declared.step.TheConstants.{JOBS_MAX}

-- the jobs, where the first one's steps begin here
unfoldable pub jobs_in : List Step → ℕ → List (ℕ × JobEnd) → List Job
jobs_in steps from [] = []
jobs_in steps from (end ∷ ends) = record { steps = take (end.0 - from) (drop from steps); end = end.1 } ∷ jobs_in steps end.0 ends

-- where the last one ends
unfoldable pub last_end : ℕ → List (ℕ × JobEnd) → ℕ
last_end from [] = from
last_end from (end ∷ ends) = last_end end.0 ends

abbrev pub end_at : List (ℕ × JobEnd) → ℕ → ℕ × JobEnd
end_at ends i = slice_index_or ends i (0, Commit)

-- where a job begins, where the first one begins here
abbrev pub start_from : ℕ → List (ℕ × JobEnd) → ℕ → ℕ
start_from from ends i = if nat_eq i 0 then from else (end_at ends (i - 1)).0

-- the ends don't fall, and none is past the last step
unfoldable pub AreJobEnds : ℕ → ℕ → List (ℕ × JobEnd) → Type 0
AreJobEnds from count [] = from ≤ count
AreJobEnds from count (end ∷ ends) = (from ≤ end.0) × AreJobEnds end.0 count ends

abbrev pub open_count : Bool → ℕ
open_count is_open = if is_open then 1 else 0

abbrev pub open_steps : Bool → List Step → Option (List Step)
open_steps is_open steps = if is_open then Some steps else None

abbrev pub progress_in : List Step → List (ℕ × JobEnd) → Bool → Progress
progress_in steps ends is_open = record { jobs = jobs_in steps 0 ends; current = open_steps is_open (drop (last_end 0 ends) steps) }

pub record IsKept (steps : List Step) (ends : List (ℕ × JobEnd)) (is_open : Bool) : Type 0 where
  pub rising : AreJobEnds 0 (length steps) ends
  pub closed : is_open ≡ false → last_end 0 ends ≡ length steps
  pub few : length ends + open_count is_open ≤ JOBS_MAX
