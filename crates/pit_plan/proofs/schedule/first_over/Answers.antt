use Rattle.std.proofs.Common.{◌<◌, subst, arith}
use Rattle.pit_num.specs.Least.{IsLeast}
use Rattle.pit_num.proofs.CallerLemmas.{rows-more, least-row}
use Rattle.pit_plan.specs.Schedule.{by_block}
use Rattle.pit_plan.specs.Limits.{at_cell}
use Rattle.pit_plan.specs.Breaches.{IsOverLimit}
use Rattle.pit_plan.proofs.schedule.first_over.Goals as goal

pub returns-in-Some : goal.returns-in-Some
returns-in-Some g c =
    let Passes = IsOverLimit c.args.pit.now (by_block c.args.tally.now.periods) (at_cell c.args.pit.now (g.L.Limits.limit_in c.args.limits.now)) in
    least-row Passes c.loop-t.t c.in-Some.r c.loop-t.invariant (subst (IsLeast ◌<◌ (λ r. Passes (c.loop-t.t, r))) c.in-Some.is c.first_over_in.ensures)

pub loop-t-preserved : goal.loop-t-preserved
loop-t-preserved g c =
    let Passes = IsOverLimit c.args.pit.now (by_block c.args.tally.now.periods) (at_cell c.args.pit.now (g.L.Limits.limit_in c.args.limits.now)) in
    rows-more Passes c.loop-t.t c.loop-t.invariant (subst (IsLeast ◌<◌ (λ r. Passes (c.loop-t.t, r))) c.in_default.is c.first_over_in.ensures)

pub returns : goal.returns
returns g c = λ p over. c.loop-t.invariant p (omega (arith, over.0)) over
