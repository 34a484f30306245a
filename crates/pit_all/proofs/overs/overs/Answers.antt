use Rattle.std.proofs.Common.{ℕ, [], ap, ◌∙◌, arith}
use Rattle.std.specs.Prelude.{flat_map}
use Rattle.std.specs.List.{range_with_len}
use Rattle.pit_model.specs.Pit.{Pit}
use Rattle.pit_plan.specs.Schedule.{held_period, limit_of}
use Rattle.pit_plan.proofs.CallerLemmas.{flat_map-pushed}
use Rattle.pit_all.specs.Breaches.{overs_in, overs_of}
use Rattle.pit_all.proofs.overs.overs.Goals as goal

pub loop-t-preserved : goal.loop-t-preserved
loop-t-preserved g c = λ commits stands.
    flat_map-pushed (overs_in c.args.plan.now.pit (held_period commits) (limit_of c.args.plan.now.pit commits)) [] c.loop-t.overs.items _ c.loop-t.t (c.loop-t.invariant commits stands)
    (c.in_ok-push_overs.ensures commits stands)

pub returns : goal.returns
unfolding overs_of
returns g c = λ commits stands.
    c.loop-t.invariant commits stands
    ∙ ap (λ (n : ℕ). flat_map (overs_in c.args.plan.now.pit (held_period commits) (limit_of c.args.plan.now.pit commits)) (range_with_len 0 n))
    (let same = ap (λ (p : Pit). p.periods) c.deposit.ensures in omega (arith, same, c.loop-t-test.false, c.loop-t.auto.t-end, c.periods-t-end.ensures))
