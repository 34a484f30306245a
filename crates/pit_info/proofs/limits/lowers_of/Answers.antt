use Rattle.std.proofs.Common.{ap, ◌∙◌, is_some, arith}
use Rattle.pit_info.specs.Figures.{has_lower}
use Rattle.pit_info.proofs.Ranges.{count_with}
use Rattle.pit_info.proofs.limits.lowers_of.Goals as goal

pub loop-t-preserved : goal.loop-t-preserved
loop-t-preserved g c = (
  count_with (has_lower c.args.pit.now c.args.r) c.loop-t.t c.loop-t.count c.one_if-count.result c.is_some.result c.loop-t.invariant.0 c.one_if-count.ensures.value (c.is_some.ensures ∙ ap is_some c.lower.ensures),
  omega (arith, c.loop-t.invariant.1, c.one_if-count.ensures.bound),
)
