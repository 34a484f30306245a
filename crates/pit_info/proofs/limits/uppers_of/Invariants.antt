use Rattle.std.proofs.Common.{◌≡◌, ◌≤◌}
use Rattle.std.specs.List.{range_with_len, count_by}
use Rattle.pit_info.specs.Figures.{has_upper}
use Rattle.pit_info.proofs.limits.uppers_of.Given as goal

abbrev pub invariant-loop-t : goal.invariant-loop-t
invariant-loop-t g l = (l.count ≡ count_by (has_upper l.pit l.r) (range_with_len 0 l.t)) × (l.count ≤ l.t)
