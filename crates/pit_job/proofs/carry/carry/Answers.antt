use Rattle.std.proofs.Common.{ℕ, List, refl, subst}
use Rattle.pit_job.specs.Inside.Doing.{StopsAt}
use Rattle.pit_job.specs.Inside.Walking.{IsReadNow, PutsEach}
use Rattle.pit_job.proofs.Meeting.{stop-handed}
use Rattle.pit_job.proofs.Walking.{carry-told, gone-stops}
use Rattle.pit_job.proofs.carry.carry.Goals as goal

pub returns-clause-ok : goal.returns-clause-ok
returns-clause-ok g c =
    let gone = c.in_ok-walked.ensures.ok in
    (carry-told g.S.Session.instance c.args.way c.args.b c.args.period c.args.t.now c.walked.new.t c.put_each.new.t c.walked.new.walk gone.0 c.walked.new.walk.found c.sort.new.self.found gone.1 gone.2 refl
    c.sort.ensures.permutation c.sort.ensures.sorted (subst (λ (bs : List ℕ). PutsEach c.walked.new.t bs c.args.period c.put_each.new.t) c.found.ensures c.in_ok-put_each.ensures.ok)).0

pub returns-clause-members : goal.returns-clause-members
returns-clause-members g c =
    let gone = c.in_ok-walked.ensures.ok in
    (carry-told g.S.Session.instance c.args.way c.args.b c.args.period c.args.t.now c.walked.new.t c.put_each.new.t c.walked.new.walk gone.0 c.walked.new.walk.found c.sort.new.self.found gone.1 gone.2 refl
    c.sort.ensures.permutation c.sort.ensures.sorted (subst (λ (bs : List ℕ). PutsEach c.walked.new.t bs c.args.period c.put_each.new.t) c.found.ensures c.in_ok-put_each.ensures.ok)).1

pub returns-in_err-put_each-clause-err : goal.returns-in_err-put_each-clause-err
returns-in_err-put_each-clause-err g c =
    let gone = c.in_ok-walked.ensures.ok in
    stop-handed c.from_residual-in_err-put_each.result c.in_err-put_each.field-0.0 (λ why. StopsAt (IsReadNow g.S.Session.instance c.args.way c.args.b c.args.period c.put_each.new.t) c.args.t.now why c.put_each.new.t)
    c.from_residual-in_err-put_each.ensures.0 c.from_residual-in_err-put_each.ensures.1
    (gone-stops g.S.Session.instance c.args.way c.args.b c.args.period c.args.t.now c.walked.new.t c.put_each.new.t c.walked.new.walk gone.0 c.in_err-put_each.field-0.0
    gone.2 c.in_err-put_each.ensures.stays c.in_err-put_each.ensures.memory)
