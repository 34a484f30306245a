-- What contracts see of a plan.
use Rattle.std.specs.Prelude.{◌≡◌, ℕ, ◌<◌, ℤ, List, [], ◌∷◌, ◌++◌, length, Option, slice_index_or}
use Rattle.pit_model.specs.Pit.{Pit}
use Rattle.pit_plan.specs.Schedule.{Commit, by_block, held_period, last_number, limit_of}
use Rattle.pit_plan.specs.Limits.{cell_limit, at_cell}

-- a plan: its pit, the number of commits, for each block its period and the number of the last commit that named it, and for each cell the
-- upper limit in force
pub record Standing : Type 0 where
  pub pit : Pit
  pub commits : ℕ
  pub periods : List (Option ℕ)
  pub versions : List ℕ
  pub limits : List (Option ℤ)

abbrev pub period_of : Standing → ℕ → Option ℕ
period_of plan b = by_block plan.periods b

abbrev pub version_of : Standing → ℕ → ℕ
version_of plan b = slice_index_or plan.versions b 0

abbrev pub limit_in_force : Standing → ℕ → ℕ → Option ℤ
limit_in_force plan r t = at_cell plan.pit (cell_limit plan.limits) r t

-- the plan is what the commits leave
pub record IsPlanOf (plan : Standing) (commits : List Commit) : Type 0 where
  pub count : plan.commits ≡ length commits
  pub period : (b : ℕ) → b < plan.pit.blocks → period_of plan b ≡ held_period commits b
  pub version : (b : ℕ) → b < plan.pit.blocks → version_of plan b ≡ last_number commits b
  pub limit : (r t : ℕ) → r < plan.pit.resources → t < plan.pit.periods → limit_in_force plan r t ≡ limit_of plan.pit commits r t

-- a commit was added: the plan stands for what it stood for, and then for the commit
pub record Adds (old : Standing) (commit : Commit) (new : Standing) : Type 0 where
  pub pit : new.pit ≡ old.pit
  pub stands : (commits : List Commit) → IsPlanOf old commits → IsPlanOf new (commits ++ commit ∷ [])
