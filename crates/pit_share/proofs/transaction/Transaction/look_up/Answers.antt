use Rattle.std.proofs.Common.{◌≤◌, arith, subst}
use Rattle.pit_desk.specs.History.{commits_of}
use Rattle.pit_share.specs.Planners.{PlannerState, TransactionState, SeesOn}
use Rattle.pit_share.specs.Reads.{IsNoted}
use Rattle.pit_share.proofs.Looking.{kept-grows, period-in_range, period-then, noted-slot}
use Rattle.pit_share.proofs.transaction.Transaction.look_up.Goals as goal

pub note-requires-clause-period : goal.note-requires-clause-period
note-requires-clause-period g c = period-in_range g.S.Session.instance (commits_of c.read.new.self.seen) c.args.block c.in-Some.slot c.in-Some.ensures.lawful c.in-Some.ensures.slot

pub note-requires-clause-held : goal.note-requires-clause-held
note-requires-clause-held g c =
    let within : c.in-Some.slot.version ≤ c.self.inside.work.start = omega (arith, c.if-version-start.false, c.start.ensures) in
    period-then (commits_of c.read.new.self.seen) c.args.block c.self.inside.work.start c.in-Some.slot c.in-Some.ensures.slot within

pub returns-clause-looked : goal.returns-clause-looked
returns-clause-looked g c =
    let within : c.in-Some.slot.version ≤ c.self.inside.work.start = omega (arith, c.if-version-start.false, c.start.ensures) in
    let old : TransactionState = record { planner = c.self.inside.account.value; work = c.self.inside.work } in
    subst (λ (t : TransactionState). IsNoted t c.args.block c.in-Some.slot.period c.note.new.self) c.self.view_is
    (noted-slot old c.note.new.self c.read.new.self c.args.block c.in-Some.slot c.in-Some.ensures.slot within c.in-Ok.ensures.planner c.in-Ok.ensures.ok)

pub invariant_of-self-then-version-start : goal.invariant_of-self-then-version-start
invariant_of-self-then-version-start g c =
    let sees = subst (λ (p : PlannerState). SeesOn p c.read.new.self) c.deref_mut.ensures.value c.in-Some.ensures.sees in
    kept-grows g.S.Session.instance c.self.inside.account.value c.read.new.self c.self.inside.work sees c.self.invariant

pub invariant_of-self-2 : goal.invariant_of-self-2
invariant_of-self-2 g c =
    let sees = subst (λ (p : PlannerState). SeesOn p c.read.new.self) c.deref_mut.ensures.value c.in-Some.ensures.sees in
    kept-grows g.S.Session.instance c.self.inside.account.value c.read.new.self c.self.inside.work sees c.self.invariant
