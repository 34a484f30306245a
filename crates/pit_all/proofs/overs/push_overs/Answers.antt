use Rattle.pit_plan.proofs.CallerLemmas.{flat_map-pushed}
use Rattle.pit_all.proofs.overs.push_overs.Goals as goal

pub loop-r-preserved : goal.loop-r-preserved
loop-r-preserved g c = λ commits stands.
    flat_map-pushed _ c.args.overs.now.items c.loop-r.overs.items _ c.loop-r.r (c.loop-r.invariant commits stands) (c.in_ok-push_over.ensures commits stands)
