use Rattle.std.proofs.Common.{sym, ◌∙◌, arith}
use Rattle.pit_info.specs.Figures.{has_upper}
use Rattle.pit_info.proofs.Ranges.{none_with, some_at}
use Rattle.pit_info.proofs.limits.is_limited.Goals as goal

pub loop-t-preserved : goal.loop-t-preserved
loop-t-preserved g c = none_with (has_upper c.args.pit.now c.args.r) c.loop-t.t c.loop-t.invariant (sym c.has_upper.ensures ∙ c.if-has_upper.false)

pub returns-then-has_upper : goal.returns-then-has_upper
returns-then-has_upper g c =
    sym (some_at (has_upper c.args.pit.now c.args.r) c.loop-t.t c.args.pit.now.periods (omega (arith, c.loop-t-test.true, c.periods-t-end.ensures)) (sym c.has_upper.ensures ∙ c.if-has_upper.true))
