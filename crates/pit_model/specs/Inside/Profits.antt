-- How the profits of the blocks are kept: a number for each block, and the set of those that have one.
use Rattle.std.specs.Prelude.{ℕ, ℤ, pos, Bool, List, length, slice_index_or, Option}
use Rattle.pit_model.specs.Inside.BlockSet.{member_values}

abbrev pub value_in : List ℤ → ℕ → ℤ
value_in values block = slice_index_or values block (pos 0)

abbrev pub profits_in : List ℤ → List Bool → List (Option ℤ)
profits_in values set = member_values (length values) set (value_in values)
