-- What is known of the blocks in a set.
use Rattle.std.specs.Prelude.{ℕ, Bool, false, List, map, slice_index_or, Option, Some, None, if◌then◌else◌}
use Rattle.std.specs.List.{range_with_len}

-- a value for a block in the set
abbrev pub member_value : {X : Type 0} → List Bool → (ℕ → X) → ℕ → Option X
member_value set value block = if slice_index_or set block false then Some (value block) else None

abbrev pub member_values : {X : Type 0} → ℕ → List Bool → (ℕ → X) → List (Option X)
member_values blocks set value = map (member_value set value) (range_with_len 0 blocks)
