use Rattle.std.proofs.Common.{◌≡◌}
use Rattle.std.specs.List.{range_with_len, filter}
use Rattle.pit_text.specs.Model.{last_of}
use Rattle.pit_info.specs.Figures.{has_preds}
use Rattle.pit_info.proofs.blocks.highest.Given as goal

abbrev pub invariant-loop-b : goal.invariant-loop-b
invariant-loop-b g l = l.highest ≡ last_of (filter (has_preds l.pit) (range_with_len 0 l.b))
