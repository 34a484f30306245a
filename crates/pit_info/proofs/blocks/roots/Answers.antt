use Rattle.std.proofs.Common.{arith}
use Rattle.pit_info.specs.Figures.{is_root}
use Rattle.pit_info.proofs.Ranges.{count_with}
use Rattle.pit_info.proofs.blocks.roots.Goals as goal

pub loop-b-preserved : goal.loop-b-preserved
loop-b-preserved g c = (
  count_with (is_root c.args.pit.now) c.loop-b.b c.loop-b.count c.one_if-count.result c.is_root.result c.loop-b.invariant.0 c.one_if-count.ensures.value c.is_root.ensures,
  omega (arith, c.loop-b.invariant.1, c.one_if-count.ensures.bound),
)
