use Rattle.std.proofs.Common.{subst}
use Rattle.pit_share.specs.Endings.{IsStopped}
use Rattle.pit_share.specs.Planners.{PlannerState, TransactionState}
use Rattle.pit_share.proofs.Stopping.{kept-stopped}
use Rattle.pit_share.proofs.transaction.Transaction.abort.Goals as goal

pub new-requires-in-Err : goal.new-requires-in-Err
new-requires-in-Err g c =
    let old : TransactionState = record { planner = c.self.inside.account.value; work = c.self.inside.work } in
    let new : TransactionState = record { planner = c.withdraw.new.self; work = c.in-Err.work } in
    let stopped =
    subst (λ (p : PlannerState). IsStopped g.S.Session.max_entries (record { planner = p; work = c.self.inside.work }) c.in-Err.stop new) c.deref_mut.ensures.value c.in-Err.ensures.stop in
    kept-stopped g.S.Session.instance g.S.Session.max_entries old new c.in-Err.stop stopped c.self.invariant
