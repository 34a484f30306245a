-- What writes and revisions touch: the schedule and the loads that they leave, and the pairs that they break.
use Rattle.std.specs.Prelude.{◌≡◌, ℕ, ◌<◌, ◌⊎◌, ℤ, Bool, true, false, nat_eq, nat_lt, ◌&&◌, ◌||◌, List, length, Option, Some, None, unwrap_or, is_some, if◌then◌else◌}
use Rattle.std.specs.Map.{lookup}
use Rattle.pit_num.specs.Least.{ComesBefore, IsLeastOf}
use Rattle.pit_model.specs.Pit.{Pit, cell_of}
use Rattle.pit_plan.specs.Schedule.{Writes, by_block, is_within}
use Rattle.pit_plan.specs.Breaches.{IsOutOfOrder}
use Rattle.pit_plan.specs.Inside.Totals.{Tallied, AreLoads, cell_load}
use Rattle.pit_plan.specs.Limits.{at_cell}
use Rattle.pit_plan.specs.declared.breach.Breach.{Breach}
use Rattle.pit_plan.specs.declared.breach.Breach.TheVariants.{Precedence, Over}

-- what the pairs say of a number, else what was there
abbrev pub overlaid_item : {X : Type 0} → (ℕ → X) → List (ℕ × X) → ℕ → X
overlaid_item before pairs k = unwrap_or (lookup (nat_eq k) pairs) (before k)

-- a pair of the list names the number
abbrev pub IsNamed : {X : Type 0} → List (ℕ × X) → ℕ → Type 0
IsNamed pairs k = is_some (lookup (nat_eq k) pairs) ≡ true

-- a block and its predecessor that are out of order, of which one is written
abbrev pub IsOutNear : Pit → (ℕ → Option ℕ) → Writes → ℕ × ℕ → Type 0
IsOutNear pit schedule writes pair = IsOutOfOrder pit schedule pair × (IsNamed writes pair.0 ⊎ IsNamed writes pair.1)

-- the period and the resource of a cell that was moved or revised, and whose load is above its limit
abbrev pub IsOverAt : Pit → (ℕ → ℕ → Option ℤ) → List (ℕ × ℤ) → ℕ × ℕ → Type 0
IsOverAt pit limit cells pair =
    (pair.0 < pit.periods) × (pair.1 < pit.resources)
    × ((load : ℤ) × (lookup (nat_eq (cell_of pit pair.1 pair.0)) cells ≡ Some load) × (is_within load (limit pair.1 pair.0) ≡ false))

-- the loads that the writes leave: those that are kept, and over them those of the cells that were moved
pub record AreMoved (pit : Pit) (tally : Tallied) (writes : Writes) (kept : List ℤ) (cells : List (ℕ × ℤ)) : Type 0 where
  pub same : kept ≡ tally.loads
  pub loads : AreLoads pit (overlaid_item (by_block tally.periods) writes) (at_cell pit (overlaid_item (cell_load kept) cells))
  pub in_range : (cell : ℕ) → IsNamed cells cell → cell < length kept

-- the cells with one of them set
abbrev pub SetsCell : List (ℕ × ℤ) → ℕ → ℤ → List (ℕ × ℤ) → Type 0
SetsCell cells cell load new = (k : ℕ) → lookup (nat_eq k) new ≡ (if nat_eq cell k then Some load else lookup (nat_eq k) cells)

-- each revised cell is among those that are moved, and no load is another
pub record LooksAt (revised : List (ℕ × Option ℤ)) (kept : List ℤ) (cells : List (ℕ × ℤ)) (new_kept : List ℤ) (new : List (ℕ × ℤ)) : Type 0 where
  pub same : new_kept ≡ kept
  pub loads : (k : ℕ) → overlaid_item (cell_load kept) new k ≡ overlaid_item (cell_load kept) cells k
  pub named : (k : ℕ) → IsNamed revised k → IsNamed new k
  pub in_range : (k : ℕ) → IsNamed new k → k < length kept

-- by their first numbers, and then their second
abbrev pub is_lesser : ℕ × ℕ → ℕ × ℕ → Bool
is_lesser p q = nat_lt p.0 q.0 || (nat_eq p.0 q.0 && nat_lt p.1 q.1)

-- of two pairs the lesser
abbrev pub lesser_of : Option (ℕ × ℕ) → Option (ℕ × ℕ) → Option (ℕ × ℕ)
lesser_of None other = other
lesser_of (Some p) None = Some p
lesser_of (Some p) (Some q) = if is_lesser q p then Some q else Some p

-- the breach is the least cell whose load is above its limit, with both
abbrev pub IsLeastOver : Pit → (ℕ → ℕ → Option ℤ) → List (ℕ × ℤ) → Breach → Type 0
IsLeastOver pit limit cells (Precedence block before) = ⊥
IsLeastOver pit limit cells (Over resource period load top) =
    IsLeastOf ComesBefore (IsOverAt pit limit cells) (period, resource) × (lookup (nat_eq (cell_of pit resource period)) cells ≡ Some load) × (limit resource period ≡ Some top)
