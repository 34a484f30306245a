-- A schedule is good where it has no pair that is out of order and no load above its limit.
use Rattle.std.proofs.Common.{◌≡◌, ℕ, ℤ, false, Option, Some, None, refl, sym, ◌∙◌, inl, inr}
use Rattle.std.proofs.lemmas.Bool.{true≢false, cases_Bool}
use Rattle.pit_num.specs.Least.{ComesBefore, IsLeast}
use Rattle.pit_model.specs.Pit.{Pit}
use Rattle.pit_plan.specs.Schedule.{load_of, in_order, is_within}
use Rattle.pit_plan.specs.Breaches.{IsOrdered, IsUnderLimits, IsOutOfOrder, IsOverLimit}

pub ordered-from_none : (pit : Pit) (schedule : ℕ → Option ℕ) → IsLeast ComesBefore (IsOutOfOrder pit schedule) None → IsOrdered pit schedule
ordered-from_none pit schedule none b a is =
    elim (cases_Bool (in_order (schedule b) (schedule a))) [ inl kept ↦ kept | inr fails ↦ absurd (none (b, a) (is, fails)) ]

pub none-from_ordered : (pit : Pit) (schedule : ℕ → Option ℕ) → IsOrdered pit schedule → IsLeast ComesBefore (IsOutOfOrder pit schedule) None
none-from_ordered pit schedule ordered = λ p is. true≢false (sym (ordered p.0 p.1 is.0) ∙ is.1)

pub within-from_none : (pit : Pit) (schedule : ℕ → Option ℕ) (limit : ℕ → ℕ → Option ℤ) → IsLeast ComesBefore (IsOverLimit pit schedule limit) None → IsUnderLimits pit schedule limit
within-from_none pit schedule limit none t r lt lr =
    elim (cases_Bool (is_within (load_of pit schedule r t) (limit r t))) [ inl fits ↦ fits | inr over ↦ absurd (none (t, r) (lt, lr, over)) ]

pub none-from_within : (pit : Pit) (schedule : ℕ → Option ℕ) (limit : ℕ → ℕ → Option ℤ) → IsUnderLimits pit schedule limit → IsLeast ComesBefore (IsOverLimit pit schedule limit) None
none-from_within pit schedule limit within = λ p is. true≢false (sym (within p.0 p.1 is.0 is.1) ∙ is.2)

-- a load that isn't within its limit has one
pub limit-over : (load : ℤ) (limit : Option ℤ) → is_within load limit ≡ false → (top : ℤ) × (limit ≡ Some top)
limit-over load None over = absurd (true≢false over)
limit-over load (Some top) over = (top, refl)
