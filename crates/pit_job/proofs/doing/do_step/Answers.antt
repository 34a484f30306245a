use Rattle.pit_job.specs.Effect.{read_in}
use Rattle.pit_job.specs.Outcomes.{IsReadOver}
use Rattle.pit_job.specs.Inside.Doing.{own_of}
use Rattle.pit_job.proofs.Stepping.{put-told, clear-told}
use Rattle.pit_job.proofs.Meeting.{stays-stops}
use Rattle.pit_job.proofs.doing.do_step.Goals as goal

pub returns-in-Put-clause-ok : goal.returns-in-Put-clause-ok
returns-in-Put-clause-ok g c = put-told g.S.Session.instance c.args.t.now c.write.new.t c.in-Put.block c.in-Put.period c.args.step.now c.write.result c.in-Put.is c.write.ensures.ok

pub returns-in-Put-clause-err : goal.returns-in-Put-clause-err
returns-in-Put-clause-err g c =
    stays-stops (λ new. IsReadOver g.S.Session.instance (read_in new.work.reads) (own_of c.args.t.now.work) c.args.step.now) c.args.t.now c.write.new.t c.write.result c.write.ensures.memory c.write.ensures.stays

pub returns-in-Clear-clause-ok : goal.returns-in-Clear-clause-ok
returns-in-Clear-clause-ok g c =
    clear-told g.S.Session.instance c.args.t.now c.write-in-Clear.new.t c.in-Clear.block c.args.step.now c.write-in-Clear.result c.in-Clear.is c.write-in-Clear.ensures.ok

pub returns-in-Clear-clause-err : goal.returns-in-Clear-clause-err
returns-in-Clear-clause-err g c =
    stays-stops (λ new. IsReadOver g.S.Session.instance (read_in new.work.reads) (own_of c.args.t.now.work) c.args.step.now) c.args.t.now c.write-in-Clear.new.t c.write-in-Clear.result
    c.write-in-Clear.ensures.memory c.write-in-Clear.ensures.stays

pub returns-in-Bench-clause-err : goal.returns-in-Bench-clause-err
returns-in-Bench-clause-err g c =
    stays-stops (λ new. IsReadOver g.S.Session.instance (read_in new.work.reads) (own_of c.args.t.now.work) c.args.step.now) c.args.t.now c.bench.new.t c.bench.result c.bench.ensures.memory c.bench.ensures.stays

pub returns-in-Revise-clause-err : goal.returns-in-Revise-clause-err
returns-in-Revise-clause-err g c =
    stays-stops (λ new. IsReadOver g.S.Session.instance (read_in new.work.reads) (own_of c.args.t.now.work) c.args.step.now) c.args.t.now c.revise.new.t c.revise.result c.revise.ensures.memory c.revise.ensures.stays

pub returns-in-Carry-clause-err : goal.returns-in-Carry-clause-err
returns-in-Carry-clause-err g c = rw c.in-Carry.is c.carry_along.ensures.err
