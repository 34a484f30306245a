use Rattle.std.proofs.Common.{◌≡◌, false}
use Rattle.std.specs.List.{range_with_len, list_any}
use Rattle.pit_info.specs.Figures.{has_upper}
use Rattle.pit_info.proofs.limits.is_limited.Given as goal

abbrev pub invariant-loop-t : goal.invariant-loop-t
invariant-loop-t g l = list_any (has_upper l.pit l.r) (range_with_len 0 l.t) ≡ false
