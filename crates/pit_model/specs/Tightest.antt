-- The tightest of several bounds, and the bounds that lines of limits leave.
use Rattle.std.specs.Prelude.{◌≡◌, ◌≢◌, ℕ, ◌<◌, ◌*◌, ◌==◌, ◌&&◌, Bool, ℤ, ◌≤ℤ◌, ◌⊎◌, List, [], ◌∷◌, map, length, Option, Some, None}
use Rattle.std.specs.List.{filter}
use Rattle.pit_model.specs.Pit.{Pit, lower_of, upper_of, with_limit}

-- the bound is among those given, where None is no bound
abbrev pub IsGiven : List (Option ℤ) → ℤ → Type 0
IsGiven [] bound = ⊥
IsGiven (first ∷ more) bound = (first ≡ Some bound) ⊎ IsGiven more bound

-- It is one of those given, no other is further in, and there is none only where none is given.
pub record IsTightest (IsInside : ℤ → ℤ → Type 0) (given : List (Option ℤ)) (kept : Option ℤ) : Type 0 where
  pub one : (bound : ℤ) → kept ≡ Some bound → IsGiven given bound
  pub inside : (bound other : ℤ) → kept ≡ Some bound → IsGiven given other → IsInside bound other
  pub some : (other : ℤ) → IsGiven given other → kept ≢ None

abbrev pub IsGreatestBound : List (Option ℤ) → Option ℤ → Type 0
IsGreatestBound = IsTightest (λ x y. y ≤ℤ x)

abbrev pub IsLeastBound : List (Option ℤ) → Option ℤ → Type 0
IsLeastBound = IsTightest (λ x y. x ≤ℤ y)

-- a line of limits: the bounds that it gives the load of a resource in a period
pub record LimitLine : Type 0 where
  pub resource : ℕ
  pub period : ℕ
  pub lower : Option ℤ
  pub upper : Option ℤ

abbrev pub is_for : ℕ → ℕ → LimitLine → Bool
is_for resource period line = line.resource == resource && line.period == period

-- what the lines for a resource in a period give
abbrev pub lowers_for : List LimitLine → ℕ → ℕ → List (Option ℤ)
lowers_for lines resource period = map (λ line. line.lower) (filter (is_for resource period) lines)

abbrev pub uppers_for : List LimitLine → ℕ → ℕ → List (Option ℤ)
uppers_for lines resource period = map (λ line. line.upper) (filter (is_for resource period) lines)

abbrev pub with_line : Pit → LimitLine → Pit
with_line pit line = with_limit pit line.resource line.period line.lower line.upper

-- There is a pair of bounds for each resource in each period, and these are the greatest lower and the least upper bound of the lines for it.
pub record AreTightest (pit : Pit) (lines : List LimitLine) : Type 0 where
  pub each : length pit.bounds ≡ pit.periods * pit.resources
  pub lower : (resource period : ℕ) → resource < pit.resources → period < pit.periods → IsGreatestBound (lowers_for lines resource period) (lower_of pit resource period)
  pub upper : (resource period : ℕ) → resource < pit.resources → period < pit.periods → IsLeastBound (uppers_for lines resource period) (upper_of pit resource period)
