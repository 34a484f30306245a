use Rattle.std.proofs.Common.{ap, ◌∙◌, is_some, arith}
use Rattle.pit_info.specs.Figures.{has_place}
use Rattle.pit_info.proofs.Ranges.{count_with}
use Rattle.pit_info.proofs.blocks.places.Goals as goal

pub loop-b-preserved : goal.loop-b-preserved
loop-b-preserved g c = (
  count_with (has_place c.args.pit.now) c.loop-b.b c.loop-b.count c.one_if-count.result c.is_some.result c.loop-b.invariant.0 c.one_if-count.ensures.value (c.is_some.ensures ∙ ap is_some c.place.ensures),
  omega (arith, c.loop-b.invariant.1, c.one_if-count.ensures.bound),
)
