use Rattle.std.proofs.Common.{sym, ◌∙◌}
use Rattle.pit_info.specs.Figures.{has_preds, is_root}
use Rattle.pit_info.proofs.Ranges.{last_with, twice}
use Rattle.pit_info.proofs.blocks.highest.Goals as goal

pub loop-b-preserved : goal.loop-b-preserved
loop-b-preserved g c = last_with (has_preds c.args.pit.now) c.loop-b.b c.loop-b.highest c.later-highest.result c.is_root.result c.loop-b.invariant c.later-highest.ensures (c.is_root.ensures ∙ sym (twice (is_root c.args.pit.now c.loop-b.b)))
