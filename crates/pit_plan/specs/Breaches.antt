-- When a schedule is good, and what its first breach is.
use Rattle.std.specs.Prelude.{◌≡◌, ℕ, ◌<◌, ℤ, true, false, List, Option, Some, None}
use Rattle.pit_num.specs.Least.{ComesBefore, IsLeastOf}
use Rattle.pit_model.specs.Pit.{Pit}
use Rattle.pit_plan.specs.Schedule.{Commit, held_period, limit_of, load_of, in_order, is_within, IsPred}
use Rattle.pit_plan.specs.Standing.{Standing, IsPlanOf}
use Rattle.pit_plan.specs.declared.breach.Breach.{Breach}
use Rattle.pit_plan.specs.declared.breach.Breach.TheVariants.{Precedence, Over}

-- each block that has a period has its predecessors no later
abbrev pub IsOrdered : Pit → (ℕ → Option ℕ) → Type 0
IsOrdered pit schedule = (b a : ℕ) → IsPred pit b a → in_order (schedule b) (schedule a) ≡ true

-- each load is at most its limit, where there is one
abbrev pub IsUnderLimits : Pit → (ℕ → Option ℕ) → (ℕ → ℕ → Option ℤ) → Type 0
IsUnderLimits pit schedule limit = (t r : ℕ) → t < pit.periods → r < pit.resources → is_within (load_of pit schedule r t) (limit r t) ≡ true

pub record IsGood (pit : Pit) (schedule : ℕ → Option ℕ) (limit : ℕ → ℕ → Option ℤ) : Type 0 where
  pub ordered : IsOrdered pit schedule
  pub within : IsUnderLimits pit schedule limit

-- a block and its predecessor that are out of order
abbrev pub IsOutOfOrder : Pit → (ℕ → Option ℕ) → ℕ × ℕ → Type 0
IsOutOfOrder pit schedule pair = IsPred pit pair.0 pair.1 × (in_order (schedule pair.0) (schedule pair.1) ≡ false)

-- a period and a resource whose load is above its limit
abbrev pub IsOverLimit : Pit → (ℕ → Option ℕ) → (ℕ → ℕ → Option ℤ) → ℕ × ℕ → Type 0
IsOverLimit pit schedule limit pair =
    (pair.0 < pit.periods) × (pair.1 < pit.resources) × (is_within (load_of pit schedule pair.1 pair.0) (limit pair.1 pair.0) ≡ false)

-- the least load that is above its limit, with both, where no pair is out of order
pub record IsFirstOver (pit : Pit) (schedule : ℕ → Option ℕ) (limit : ℕ → ℕ → Option ℤ) (resource period : ℕ) (load top : ℤ) : Type 0 where
  pub ordered : IsOrdered pit schedule
  pub least : IsLeastOf ComesBefore (IsOverLimit pit schedule limit) (period, resource)
  pub load_is : load ≡ load_of pit schedule resource period
  pub limit_is : limit resource period ≡ Some top

-- the least pair that is out of order, else the least load that is above its limit
abbrev pub IsFirstBreach : Pit → (ℕ → Option ℕ) → (ℕ → ℕ → Option ℤ) → Option Breach → Type 0
IsFirstBreach pit schedule limit None = IsGood pit schedule limit
IsFirstBreach pit schedule limit (Some (Precedence block before)) = IsLeastOf ComesBefore (IsOutOfOrder pit schedule) (block, before)
IsFirstBreach pit schedule limit (Some (Over resource period load top)) = IsFirstOver pit schedule limit resource period load top

-- what the commits leave is good
abbrev pub AreGood : Pit → List Commit → Type 0
AreGood pit commits = IsGood pit (held_period commits) (limit_of pit commits)

-- the first breach of what the commits leave
abbrev pub IsBreachOf : Pit → List Commit → Option Breach → Type 0
IsBreachOf pit commits breach = IsFirstBreach pit (held_period commits) (limit_of pit commits) breach

-- no plan that stands as this one does has a breach
abbrev pub IsGoodNow : Standing → Type 0
IsGoodNow plan = (commits : List Commit) → IsPlanOf plan commits → AreGood plan.pit commits
