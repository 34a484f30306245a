use Rattle.std.proofs.Common.{◌≡◌, ◌*◌, ◌≤◌}
use Rattle.std.specs.List.{range_with_len, sum_by}
use Rattle.pit_model.specs.declared.counts.TheConstants.{BLOCKS_MAX}
use Rattle.pit_info.specs.Figures.{preds_at}
use Rattle.pit_info.proofs.blocks.pairs.Given as goal

abbrev pub invariant-loop-b : goal.invariant-loop-b
invariant-loop-b g l = (l.count ≡ sum_by (preds_at l.pit) (range_with_len 0 l.b)) × (l.count ≤ l.b * BLOCKS_MAX)
