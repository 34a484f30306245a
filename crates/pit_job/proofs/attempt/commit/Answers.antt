use Rattle.pit_desk.specs.declared.entry.Act.TheVariants as act
use Rattle.pit_job.proofs.Trying.{answered-ends, stopped-ends}
use Rattle.pit_job.proofs.attempt.commit.Goals as goal

pub returns-in-Ok-clause-ends : goal.returns-in-Ok-clause-ends
returns-in-Ok-clause-ends g c =
    answered-ends g.S.Session.instance g.S.Session.max_entries c.args.t.work c.args.t.planner c.in-Ok.planner c.in-Ok.reply c.tried_of.result c.in-Ok.ensures.ended c.tried_of.ensures

pub returns-in-Err-clause-ends : goal.returns-in-Err-clause-ends
returns-in-Err-clause-ends g c =
    stopped-ends g.S.Session.instance g.S.Session.max_entries act.Commit c.args.t c.in-Err.t c.abandon.result c.in-Err.stop c.stop_of.result c.in-Err.ensures.stop c.abandon.ensures c.stop_of.ensures
