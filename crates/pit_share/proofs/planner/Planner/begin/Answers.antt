use Rattle.std.proofs.Common.{◌≡◌, length, sym, subst}
use Rattle.pit_desk.specs.History.{commits_of}
use Rattle.pit_share.specs.Planners.{PlannerState, IsTransactionKept}
use Rattle.pit_share.proofs.Looking.{kept-begun}
use Rattle.pit_share.proofs.planner.Planner.begin.Goals as goal

pub new-requires : goal.new-requires
new-requires g c =
    let planner : PlannerState = c.deref_mut-2.result.now in
    let start = subst (λ (p : PlannerState). c.begin-start.result ≡ length (commits_of p.seen)) (sym c.deref_mut-2.ensures.value) c.begin-start.ensures.start in
    subst (λ (p : PlannerState). IsTransactionKept g.S.Session.instance (record { planner = p; work = c.in-Ok.work })) (sym c.work.ensures.unchanged)
    (kept-begun g.S.Session.instance planner c.args.job c.begin-start.result c.in-Ok.work start c.in-Ok.ensures.work)
