-- The least of what passes a test.
use Rattle.std.specs.Prelude.{◌≡◌, ℕ, ◌<◌, ◌⊎◌, Option, Some, None}

-- pairs in order by their first number, and then their second
abbrev pub ComesBefore : ℕ × ℕ → ℕ × ℕ → Type 0
ComesBefore p q = (p.0 < q.0) ⊎ ((p.0 ≡ q.0) × (p.1 < q.1))

-- it passes, and nothing before it does
pub record IsLeastOf {X : Type 0} (Before : X → X → Type 0) (Passes : X → Type 0) (found : X) : Type 0 where
  pub passes : Passes found
  pub first : (x : X) → Passes x → Before x found → ⊥

-- the least of what passes, or none where nothing does
abbrev pub IsLeast : {X : Type 0} → (X → X → Type 0) → (X → Type 0) → Option X → Type 0
IsLeast {X} Before Passes None = (x : X) → Passes x → ⊥
IsLeast Before Passes (Some found) = IsLeastOf Before Passes found
