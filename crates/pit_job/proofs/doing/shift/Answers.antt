use Rattle.std.proofs.Common.{ℕ, Option, subst}
use Rattle.pit_job.specs.Inside.Doing.{LooksUp}
use Rattle.pit_job.proofs.Stepping.{shift-none, shift-out, shift-told, shifted-as}
use Rattle.pit_job.proofs.Meeting.{shift-stops}
use Rattle.pit_job.proofs.Seeing.{sees-trans}
use Rattle.pit_job.proofs.doing.shift.Goals as goal

pub returns-in_default-clause-ok : goal.returns-in_default-clause-ok
returns-in_default-clause-ok g c =
    shift-none g.S.Session.instance c.args.t.now c.look.new.t c.args.b c.args.by c.args.is_back
    (subst (λ (o : Option ℕ). LooksUp c.args.t.now c.args.b o c.look.new.t) c.in_default.is c.in_ok-now.ensures.ok)

pub returns-in_default-shifted_in-clause-ok : goal.returns-in_default-shifted_in-clause-ok
returns-in_default-shifted_in-clause-ok g c =
    shift-out g.S.Session.instance c.args.t.now c.look.new.t c.args.b c.args.by c.in-Some.now c.args.is_back
    (subst (λ (o : Option ℕ). LooksUp c.args.t.now c.args.b o c.look.new.t) c.in-Some.is c.in_ok-now.ensures.ok)
    (shifted-as g.S.Session.instance c.args.benches.now c.args.is_back c.args.by c.in-Some.now c.shifted_in.result _ c.requires.pit c.shifted_in.ensures c.in_default-shifted_in.is)

pub returns-clause-ok : goal.returns-clause-ok
returns-clause-ok g c =
    shift-told g.S.Session.instance c.args.t.now c.look.new.t c.write.new.t c.args.b c.args.by c.in-Some.now c.in-Some-shifted_in.then c.args.is_back c.write.result
    (subst (λ (o : Option ℕ). LooksUp c.args.t.now c.args.b o c.look.new.t) c.in-Some.is c.in_ok-now.ensures.ok)
    (shifted-as g.S.Session.instance c.args.benches.now c.args.is_back c.args.by c.in-Some.now c.shifted_in.result _ c.requires.pit c.shifted_in.ensures c.in-Some-shifted_in.is)
    c.write.ensures.ok

pub returns-clause-err : goal.returns-clause-err
returns-clause-err g c =
    shift-stops g.S.Session.instance c.args.t.now c.look.new.t c.write.new.t c.args.b c.args.by c.args.is_back _ c.write.result c.in_ok-now.ensures.ok c.write.ensures.memory c.write.ensures.stays

pub returns-clause-sees : goal.returns-clause-sees
returns-clause-sees g c = sees-trans c.args.t.now.planner c.look.new.t.planner c.write.new.t.planner c.look.ensures.sees c.write.ensures.sees
