use Rattle.std.proofs.Common.{arith}
use Rattle.std.proofs.lemmas.Result.{err_from_is_err_and}
use Rattle.pit_model.specs.Pit.{lower_of}
use Rattle.pit_plan.specs.Schedule.{by_block, load_of}
use Rattle.pit_plan.specs.Shortfalls.{short_at}
use Rattle.pit_plan.proofs.Shorts.{flat_map-pushed, flat_map-some}
use Rattle.pit_plan.proofs.schedule.push_shorts.Goals as goal

pub loop-r-preserved : goal.loop-r-preserved
loop-r-preserved g c = flat_map-pushed _ c.args.shorts.now.items c.loop-r.shorts.items _ c.loop-r.r c.loop-r.invariant c.in_ok-push_short.ensures.pushed

pub returns-in_err-push_short-clause-refused : goal.returns-in_err-push_short-clause-refused
returns-in_err-push_short-clause-refused g c =
    let pit = c.args.pit.now in
    let p = err_from_is_err_and c.from_residual.result c.from_residual.ensures.1 in
    rw p.1
    (flat_map-some (λ r. short_at r c.args.t (load_of pit (by_block c.args.tally.now.periods) r c.args.t) (lower_of pit r c.args.t)) pit.resources c.loop-r.r
    (omega (arith, c.loop-r-test.true, c.resources-r-end.ensures)) c.in_err-push_short.ensures.refused)
