use Rattle.std.proofs.Common.{◌≡◌, ◌≤◌}
use Rattle.std.specs.List.{range_with_len, count_by}
use Rattle.pit_info.specs.Figures.{has_place}
use Rattle.pit_info.proofs.blocks.places.Given as goal

abbrev pub invariant-loop-b : goal.invariant-loop-b
invariant-loop-b g l = (l.count ≡ count_by (has_place l.pit) (range_with_len 0 l.b)) × (l.count ≤ l.b)
