use Rattle.std.proofs.Common.{arith, sym, ap, ◌∙◌}
use Rattle.pit_plan.proofs.Preds.{first_late-least, none-late}
use Rattle.pit_plan.specs.Schedule.{in_order}
use Rattle.pit_plan.proofs.schedule.first_late.Goals as goal

pub returns-then-not-keeps_order : goal.returns-then-not-keeps_order
returns-then-not-keeps_order g c =
    first_late-least (g.S.Schedule.period_at c.args.schedule.now) c.args.later c.args.preds.now c.loop-a.a-index c.requires.rising c.loop-a-test.true c.loop-a.invariant
    (ap (in_order c.args.later) (sym c.period.ensures) ∙ (sym c.keeps_order.ensures ∙ c.if-not-keeps_order.true))

pub returns : goal.returns
returns g c = none-late (g.S.Schedule.period_at c.args.schedule.now) c.args.later c.args.preds.now c.loop-a.a-index (omega arith) c.loop-a.invariant
