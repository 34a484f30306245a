-- The rows of a table: what a schedule mines, earns and loads in each period.
use Rattle.std.specs.Prelude.{ℕ, ◌+◌, ℤ, pos, List, map, count_by, Option, if◌then◌else◌}
use Rattle.std.specs.List.{range_with_len}
use Rattle.pit_model.specs.Pit.{Pit, lower_of}
use Rattle.pit_plan.specs.Sums.{total}
use Rattle.pit_plan.specs.Schedule.{is_in, earned_in, load_of}

-- the load of a resource in a period, with its greatest lower limit and its upper limit in force, in millionths
pub record Loading : Type 0 where
  pub load : ℤ
  pub lower : Option ℤ
  pub upper : Option ℤ

-- a period, the number of its blocks, what they earn, and what the blocks of all periods up to it earn, in units of 10^-18; and its loads, by
-- rising resource
pub record Row : Type 0 where
  pub period : ℕ
  pub blocks : ℕ
  pub value : ℤ
  pub cumulative : ℤ
  pub loadings : List Loading

-- how many blocks are in the period
abbrev pub blocks_in : Pit → (ℕ → Option ℕ) → ℕ → ℕ
blocks_in pit schedule t = count_by (λ b. is_in (schedule b) t) (range_with_len 0 pit.blocks)

-- what a block adds to the value of a period
abbrev pub addend : Pit → (ℕ → Option ℕ) → ℕ → ℕ → ℤ
addend pit schedule t b = if is_in (schedule b) t then earned_in pit b (schedule b) else pos 0

-- the discounted profits of the blocks that are in the period, added up
abbrev pub value_in : Pit → (ℕ → Option ℕ) → ℕ → ℤ
value_in pit schedule t = total (addend pit schedule t) pit.blocks

-- the values of the periods up to and with this one, added up
abbrev pub value_up_to : Pit → (ℕ → Option ℕ) → ℕ → ℤ
value_up_to pit schedule t = total (value_in pit schedule) (t + 1)

abbrev pub loading_of : Pit → (ℕ → Option ℕ) → (ℕ → ℕ → Option ℤ) → ℕ → ℕ → Loading
loading_of pit schedule limit t r = record { load = load_of pit schedule r t; lower = lower_of pit r t; upper = limit r t }

abbrev pub row_of : Pit → (ℕ → Option ℕ) → (ℕ → ℕ → Option ℤ) → ℕ → Row
row_of pit schedule limit t =
    record {
      period = t;
      blocks = blocks_in pit schedule t;
      value = value_in pit schedule t;
      cumulative = value_up_to pit schedule t;
      loadings = map (loading_of pit schedule limit t) (range_with_len 0 pit.resources);
    }

-- a row for each period
unfoldable pub rows_of : Pit → (ℕ → Option ℕ) → (ℕ → ℕ → Option ℤ) → List Row
rows_of pit schedule limit = map (row_of pit schedule limit) (range_with_len 0 pit.periods)
