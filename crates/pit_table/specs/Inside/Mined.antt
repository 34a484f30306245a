-- What the first blocks of a schedule come to, by period.
use Rattle.std.specs.Prelude.{◌≡◌, ℕ, ◌<◌, pos, List, length, Option, slice_index_or, count_by}
use Rattle.std.specs.List.{range_with_len}
use Rattle.pit_model.specs.Pit.{Pit}
use Rattle.pit_plan.specs.Sums.{total}
use Rattle.pit_plan.specs.Schedule.{is_in}
use Rattle.pit_table.specs.declared.mined.Mined.{Mined}
use Rattle.pit_table.specs.Rows.{addend}

abbrev pub nothing_mined : Mined
nothing_mined = record { blocks = 0; value = pos 0 }

abbrev pub mined_at : List Mined → ℕ → Mined
mined_at mined t = slice_index_or mined t nothing_mined

-- for each period, how many of the first n blocks are in it, and what these earn
pub record AreMined (pit : Pit) (schedule : ℕ → Option ℕ) (n : ℕ) (mined : List Mined) : Type 0 where
  pub each : length mined ≡ pit.periods
  pub blocks : (t : ℕ) → t < pit.periods → (mined_at mined t).blocks ≡ count_by (λ b. is_in (schedule b) t) (range_with_len 0 n)
  pub value : (t : ℕ) → t < pit.periods → (mined_at mined t).value ≡ total (addend pit schedule t) n
