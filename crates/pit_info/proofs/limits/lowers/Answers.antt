use Rattle.std.proofs.Common.{arith}
use Rattle.pit_info.specs.Figures.{lowers_of}
use Rattle.pit_info.proofs.Ranges.{sum_with}
use Rattle.pit_info.proofs.limits.lowers.Goals as goal

pub overflow_add-count : goal.overflow_add-count
overflow_add-count g c = omega (arith, c.lowers_of-count.ensures.few, c.shows_sound.ensures.few_periods, c.loop-r.invariant.1)

pub loop-r-preserved : goal.loop-r-preserved
loop-r-preserved g c = (
  sum_with (lowers_of c.args.pit.now) c.loop-r.r c.loop-r.count c.lowers_of-count.result c.loop-r.invariant.0 c.lowers_of-count.ensures.count,
  omega (arith, c.lowers_of-count.ensures.few, c.shows_sound.ensures.few_periods, c.loop-r.invariant.1),
)
