-- The loads and the value that a plan keeps.
use Rattle.std.specs.Prelude.{◌≡◌, ◌≢◌, ℕ, ◌*◌, ◌<◌, ℤ, pos, neg_ℤ, ◌+ℤ◌, Bool, nat_eq, List, length, Option, Some, None, slice_index_or, if◌then◌else◌, All, IfSome}
use Rattle.pit_model.specs.Pit.{Pit}
use Rattle.pit_plan.specs.Schedule.{by_block, load_of, value_of}
use Rattle.pit_plan.specs.Limits.{at_cell}

-- the load of a cell, of a list that has one for each
abbrev pub cell_load : List ℤ → ℕ → ℤ
cell_load loads cell = slice_index_or loads cell (pos 0)

-- the loads, by resource and period, are those of the schedule
abbrev pub AreLoads : Pit → (ℕ → Option ℕ) → (ℕ → ℕ → ℤ) → Type 0
AreLoads pit schedule loads = (r t : ℕ) → r < pit.resources → t < pit.periods → loads r t ≡ load_of pit schedule r t

-- what is kept is that of the schedule
pub record AreTotals (pit : Pit) (schedule : ℕ → Option ℕ) (loads : List ℤ) (sum : ℤ) : Type 0 where
  pub each : AreLoads pit schedule (at_cell pit (cell_load loads))
  pub value : sum ≡ value_of pit schedule

-- a schedule with its loads and its value
pub record Tallied : Type 0 where
  pub periods : List (Option ℕ)
  pub loads : List ℤ
  pub worth : ℤ

-- a period or none for each block, in range, and a load for each resource in each period, which are those of the schedule
pub record IsTally (pit : Pit) (tally : Tallied) : Type 0 where
  pub each_period : length tally.periods ≡ pit.blocks
  pub in_range : All (λ period. IfSome period (λ t. t < pit.periods)) tally.periods
  pub each_load : length tally.loads ≡ pit.periods * pit.resources
  pub totals : AreTotals pit (by_block tally.periods) tally.loads tally.worth

-- a coefficient that is put in, or taken out
abbrev pub signed_coef : Bool → ℤ → ℤ
signed_coef up coef = if up then coef else neg_ℤ coef

-- the loads of one period are moved by what `by` says of each resource, and no other is
pub record Moves (pit : Pit) (old : ℕ → ℕ → ℤ) (t : ℕ) (by : ℕ → ℤ) (new : ℕ → ℕ → ℤ) : Type 0 where
  pub moved : (r : ℕ) → r < pit.resources → new r t ≡ old r t +ℤ by r
  pub others : (r u : ℕ) → r < pit.resources → u ≢ t → new r u ≡ old r u

-- the same where there is a period, and else none is moved
abbrev pub MovesIn : Pit → (ℕ → ℕ → ℤ) → Option ℕ → (ℕ → ℤ) → (ℕ → ℕ → ℤ) → Type 0
MovesIn pit old None by new = (r t : ℕ) → r < pit.resources → new r t ≡ old r t
MovesIn pit old (Some t) by new = Moves pit old t by new

-- one load is moved, and no other is
pub record MovesOne (resources : ℕ) (old : ℕ → ℕ → ℤ) (r t : ℕ) (by : ℤ) (new : ℕ → ℕ → ℤ) : Type 0 where
  pub moved : new r t ≡ old r t +ℤ by
  pub others : (q u : ℕ) → q < resources → ((q ≡ r) × (u ≡ t) → ⊥) → new q u ≡ old q u

-- the load of one cell is raised, and no other is
abbrev pub Raises : (ℕ → ℤ) → ℕ → ℤ → (ℕ → ℤ) → Type 0
Raises old cell by new = (k : ℕ) → new k ≡ (if nat_eq cell k then old cell +ℤ by else old k)

-- the schedule with one block's period replaced
abbrev pub with_period : (ℕ → Option ℕ) → ℕ → Option ℕ → ℕ → Option ℕ
with_period schedule b period x = if nat_eq x b then period else schedule x
