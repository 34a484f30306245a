use Rattle.std.proofs.Common.{◌<◌, subst, arith}
use Rattle.pit_num.specs.Least.{IsLeast}
use Rattle.pit_num.proofs.CallerLemmas.{rows-more, least-row}
use Rattle.pit_plan.specs.Schedule.{by_block}
use Rattle.pit_plan.specs.Breaches.{IsOutOfOrder}
use Rattle.pit_plan.proofs.Preds.{pred-known, least-late}
use Rattle.pit_plan.proofs.schedule.first_out_of_order.Goals as goal

pub returns-in-Some : goal.returns-in-Some
returns-in-Some g c =
    let pit = c.args.pit.now in
    let s = by_block c.args.tally.now.periods in
    let row = least-late pit s c.loop-b.b c.period.result c.preds.result.now c.first_late.result c.preds.ensures.value c.period.ensures c.first_late.ensures in
    least-row (IsOutOfOrder pit s) c.loop-b.b c.in-Some.a c.loop-b.invariant (subst (IsLeast ◌<◌ (λ a. IsOutOfOrder pit s (c.loop-b.b, a))) c.in-Some.is row)

pub loop-b-preserved : goal.loop-b-preserved
loop-b-preserved g c =
    let pit = c.args.pit.now in
    let s = by_block c.args.tally.now.periods in
    let row = least-late pit s c.loop-b.b c.period.result c.preds.result.now c.first_late.result c.preds.ensures.value c.period.ensures c.first_late.ensures in
    rows-more (IsOutOfOrder pit s) c.loop-b.b c.loop-b.invariant (subst (IsLeast ◌<◌ (λ a. IsOutOfOrder pit s (c.loop-b.b, a))) c.in_default.is row)

pub returns : goal.returns
returns g c = λ p is. c.loop-b.invariant p (let known = pred-known c.args.pit.now p.0 p.1 c.blocks-b-end.ensures.sound is.0 in omega (arith, known.0)) is
