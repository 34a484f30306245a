-- What an edit changes, and which of its changes meet somebody else's.
use Rattle.std.specs.Prelude.{◌≡◌, ℕ, ◌<◌, ◌≤◌, ◌&&◌, nat_eq, nat_lt, not, Bool, List, [], length, take, Option, IfSome, if◌then◌else◌}
use Rattle.std.specs.Option.{option_eq}
use Rattle.std.specs.List.{filter, range_with_len}
use Rattle.pit_model.specs.Pit.{Pit}
use Rattle.pit_plan.specs.Schedule.{Commit, by_block, held_period}

-- an edit by its number: how many commits it was made from, and by block the period or none that the base has, and that the edit has
pub record Edit : Type 0 where
  pub number : ℕ
  pub start : ℕ
  pub base : List (Option ℕ)
  pub wanted : List (Option ℕ)

abbrev pub base_of : Edit → ℕ → Option ℕ
base_of edit b = by_block edit.base b

abbrev pub wanted_of : Edit → ℕ → Option ℕ
wanted_of edit b = by_block edit.wanted b

-- ---- changes, where so much is held

abbrev pub is_same : Option ℕ → Option ℕ → Bool
is_same p q = option_eq nat_eq p q

-- what is wanted is neither what the base has nor what is held
abbrev pub is_apart : Option ℕ → Option ℕ → Option ℕ → Bool
is_apart base held wanted = not (is_same wanted base) && not (is_same wanted held)

abbrev pub is_change : Edit → (ℕ → Option ℕ) → ℕ → Bool
is_change edit held b = is_apart (base_of edit b) (held b) (wanted_of edit b)

-- each such block of so many, rising
unfoldable pub changes_of : ℕ → Edit → (ℕ → Option ℕ) → List ℕ
changes_of blocks edit held = filter (is_change edit held) (range_with_len 0 blocks)

-- ---- late ones, by the number of the last commit that has written each block

-- a commit behind the base has written the block
abbrev pub is_late : ℕ → (ℕ → ℕ) → ℕ → Bool
is_late start version b = nat_lt start (version b)

-- the changes that meet such a commit, and the others
abbrev pub late_of : ℕ → (ℕ → ℕ) → List ℕ → List ℕ
late_of start version changes = filter (is_late start version) changes

abbrev pub early_of : ℕ → (ℕ → ℕ) → List ℕ → List ℕ
early_of start version changes = filter (λ b. not (is_late start version b)) changes

-- of the changes those that are written, and those that are left out
abbrev pub kept_of : Bool → ℕ → (ℕ → ℕ) → List ℕ → List ℕ
kept_of is_partial start version changes = if is_partial then early_of start version changes else changes

abbrev pub left_of : Bool → ℕ → (ℕ → ℕ) → List ℕ → List ℕ
left_of is_partial start version changes = if is_partial then late_of start version changes else []

-- ---- what is so of an edit that is merged

-- its base is what so many of the commits leave, and it has a period of the pit or none for each block
pub record IsEditOn (pit : Pit) (commits : List Commit) (edit : Edit) : Type 0 where
  pub seen : edit.start ≤ length commits
  pub each_base : length edit.base ≡ pit.blocks
  pub each_wanted : length edit.wanted ≡ pit.blocks
  pub base : (b : ℕ) → b < pit.blocks → base_of edit b ≡ held_period (take edit.start commits) b
  pub in_range : (b : ℕ) → b < pit.blocks → IfSome (wanted_of edit b) (λ t. t < pit.periods)
