-- What is found of a schedule on the way to its first breach.
use Rattle.std.specs.Prelude.{◌≡◌, ℕ, false, List, Contains, Option}
use Rattle.pit_plan.specs.Schedule.{in_order}

-- one of the blocks that is later than a period
abbrev pub IsLate : (ℕ → Option ℕ) → Option ℕ → List ℕ → ℕ → Type 0
IsLate schedule later preds a = Contains preds a × (in_order later (schedule a) ≡ false)
