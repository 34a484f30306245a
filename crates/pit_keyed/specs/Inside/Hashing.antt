-- What a hasher computes.
use Rattle.std.specs.Prelude.{ℕ, ◌+◌, ◌*◌, ◌/◌, ◌%◌, ◌^◌, List, nat_le, length, if◌then◌else◌, slice_index}
use Rattle.pit_keyed.specs.declared.keys.KeyHasher.{KeyHasher}
use Rattle.pit_keyed.specs.declared.keys.Keys.{Keys}

-- the first four bytes as a number, the lowest first
unfoldable pub number_of : List ℕ → ℕ
number_of bytes =
    if nat_le 4 (length bytes) then slice_index bytes 0 + slice_index bytes 1 * 256 + slice_index bytes 2 * 65536 + slice_index bytes 3 * 16777216
    else 0

unfoldable pub mixed : ℕ → ℕ → ℕ → ℕ
mixed multiplier state n = ((state + n) % 2 ^ 64 * multiplier) % 2 ^ 64

abbrev pub begun : Keys → KeyHasher
begun keys = record { state = 0; multiplier = keys.multiplier }

unfoldable pub written : KeyHasher → List ℕ → KeyHasher
written h bytes = record h { state = mixed h.multiplier h.state (number_of bytes) }

abbrev pub finished : KeyHasher → ℕ
finished h = h.state / 2 ^ 32
