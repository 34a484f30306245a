use Rattle.std.proofs.Common.{ℕ, [], ap, ◌∙◌, arith}
use Rattle.std.specs.Prelude.{flat_map}
use Rattle.std.specs.List.{range_with_len}
use Rattle.pit_plan.specs.Shortfalls.{shortfalls_of, shorts_in}
use Rattle.std.proofs.lemmas.Result.{err_from_is_err_and}
use Rattle.pit_plan.proofs.Shorts.{flat_map-pushed, flat_map-some}
use Rattle.pit_plan.specs.Schedule.{by_block}
use Rattle.pit_plan.proofs.schedule.shortfalls.Goals as goal

pub loop-t-preserved : goal.loop-t-preserved
loop-t-preserved g c =
    flat_map-pushed (shorts_in c.args.pit.now (by_block c.args.tally.now.periods)) [] c.loop-t.shorts.items _ c.loop-t.t c.loop-t.invariant c.in_ok-push_shorts.ensures.pushed

pub returns-clause-shorts : goal.returns-clause-shorts
unfolding shortfalls_of
returns-clause-shorts g c =
    c.loop-t.invariant ∙ ap (λ (n : ℕ). flat_map (shorts_in c.args.pit.now (by_block c.args.tally.now.periods)) (range_with_len 0 n)) (omega arith)

pub returns-in_err-push_shorts-clause-refused : goal.returns-in_err-push_shorts-clause-refused
unfolding shortfalls_of
returns-in_err-push_shorts-clause-refused g c =
    let pit = c.args.pit.now in
    let p = err_from_is_err_and c.from_residual.result c.from_residual.ensures.1 in
    rw p.1 (flat_map-some (shorts_in pit (by_block c.args.tally.now.periods)) pit.periods c.loop-t.t (omega (arith, c.loop-t-test.true, c.periods-t-end.ensures)) c.in_err-push_shorts.ensures.refused)
