-- Sets of blocks, as bits, 64 of them to a word.
use Rattle.std.specs.Prelude.{ℕ, ◌*◌, ◌/◌, ◌%◌, ◌==◌, Bool, List, map, length, slice_index}
use Rattle.std.specs.Int.{bit_at}
use Rattle.std.specs.List.{range_with_len}

abbrev pub has_block : List ℕ → ℕ → Bool
has_block words block = bit_at (slice_index words (block / 64)) (block % 64) == 1

-- whether each block is in the set
abbrev pub blocks_in : List ℕ → List Bool
blocks_in words = map (has_block words) (range_with_len 0 (64 * length words))
