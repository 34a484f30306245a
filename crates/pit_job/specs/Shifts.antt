-- Periods so much later or earlier.
use Rattle.std.specs.Prelude.{ℕ, ◌+◌, ◌-◌, Bool, true, false, nat_le, nat_lt, ◌&&◌, Option, Some, None, if◌then◌else◌}

-- the period that lies so much later or earlier, if it is one
abbrev pub shifted : ℕ → Bool → ℕ → ℕ → Option ℕ
shifted periods true by t = if nat_le by t && nat_lt (t - by) periods then Some (t - by) else None
shifted periods false by t = if nat_lt (t + by) periods then Some (t + by) else None
