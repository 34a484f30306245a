use Rattle.std.proofs.Common.{◌≡◌, ◌*◌, ◌≤◌}
use Rattle.std.specs.List.{range_with_len, sum_by}
use Rattle.pit_num.specs.declared.limits.TheConstants.{PERIODS_MAX}
use Rattle.pit_info.specs.Figures.{lowers_of}
use Rattle.pit_info.proofs.limits.lowers.Given as goal

abbrev pub invariant-loop-r : goal.invariant-loop-r
invariant-loop-r g l = (l.count ≡ sum_by (lowers_of l.pit) (range_with_len 0 l.r)) × (l.count ≤ l.r * PERIODS_MAX)
