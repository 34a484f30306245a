-- What differs between two schedules: which blocks, and how many went from which period to which.
use Rattle.std.specs.Prelude.{ℕ, ◌==◌, ◌&&◌, ◌||◌, nat_eq, Bool, List, [], ◌∷◌, ◌++◌, map, flat_map, Option, Some, None, if◌then◌else◌}
use Rattle.std.specs.Option.{option_eq}
use Rattle.std.specs.List.{count_by, range_with_len}

-- one period, or none both times
abbrev pub is_same : Option ℕ → Option ℕ → Bool
is_same p q = option_eq nat_eq p q

-- ---- blocks

-- a block, with its period or none in the old schedule and in the new one
pub record Change : Type 0 where
  pub block : ℕ
  pub old : Option ℕ
  pub new : Option ℕ

abbrev pub change_at : (ℕ → Option ℕ) → (ℕ → Option ℕ) → ℕ → List Change
change_at old new b = if is_same (old b) (new b) then [] else record { block = b; old = old b; new = new b } ∷ []

-- each of so many blocks whose period differs, rising
unfoldable pub changes_of : ℕ → (ℕ → Option ℕ) → (ℕ → Option ℕ) → List Change
changes_of blocks old new = flat_map (change_at old new) (range_with_len 0 blocks)

-- ---- how many went

-- a block goes from one period to another
abbrev pub goes : (ℕ → Option ℕ) → (ℕ → Option ℕ) → Option ℕ → Option ℕ → ℕ → Bool
goes old new from to b = is_same (old b) from && is_same (new b) to

-- how many of so many blocks do
unfoldable pub moved : ℕ → (ℕ → Option ℕ) → (ℕ → Option ℕ) → Option ℕ → Option ℕ → ℕ
moved blocks old new from to = count_by (goes old new from to) (range_with_len 0 blocks)

-- two periods, and how many blocks went from the one to the other
pub record Move : Type 0 where
  pub old : Option ℕ
  pub new : Option ℕ
  pub number : ℕ

-- where they differ, and some did
abbrev pub move_of : Option ℕ → Option ℕ → ℕ → List Move
move_of from to number = if is_same from to || number == 0 then [] else record { old = from; new = to; number = number } ∷ []

-- each period, rising, and behind them none
unfoldable pub periods_and_none : ℕ → List (Option ℕ)
periods_and_none periods = map Some (range_with_len 0 periods) ++ None ∷ []

abbrev pub moves_from : ℕ → (Option ℕ → Option ℕ → ℕ) → Option ℕ → List Move
moves_from periods number from = flat_map (λ to. move_of from to (number from to)) (periods_and_none periods)

-- of each pair of periods in turn, by rising old one, and then by rising new one
unfoldable pub moves_by : ℕ → (Option ℕ → Option ℕ → ℕ) → List Move
moves_by periods number = flat_map (moves_from periods number) (periods_and_none periods)

abbrev pub moves_of : ℕ → ℕ → (ℕ → Option ℕ) → (ℕ → Option ℕ) → List Move
moves_of blocks periods old new = moves_by periods (moved blocks old new)
