use Rattle.std.proofs.Common.{arith}
use Rattle.pit_info.specs.Figures.{has_upper}
use Rattle.pit_info.proofs.Ranges.{count_with}
use Rattle.pit_info.proofs.limits.uppers_of.Goals as goal

pub loop-t-preserved : goal.loop-t-preserved
loop-t-preserved g c = (
  count_with (has_upper c.args.pit.now c.args.r) c.loop-t.t c.loop-t.count c.one_if-count.result c.has_upper.result c.loop-t.invariant.0 c.one_if-count.ensures.value c.has_upper.ensures,
  omega (arith, c.loop-t.invariant.1, c.one_if-count.ensures.bound),
)
