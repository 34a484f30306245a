use Rattle.std.proofs.Common.{arith}
use Rattle.pit_info.specs.Figures.{has_profit}
use Rattle.pit_info.proofs.Ranges.{count_with}
use Rattle.pit_info.proofs.blocks.profits.Goals as goal

pub loop-b-preserved : goal.loop-b-preserved
loop-b-preserved g c = (
  count_with (has_profit c.args.pit.now) c.loop-b.b c.loop-b.count c.one_if-count.result c.has_profit.result c.loop-b.invariant.0 c.one_if-count.ensures.value c.has_profit.ensures,
  omega (arith, c.loop-b.invariant.1, c.one_if-count.ensures.bound),
)
