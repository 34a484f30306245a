use Rattle.pit_job.proofs.Stepping.{revise-told}
use Rattle.pit_job.proofs.doing.revise.Goals as goal

pub returns-clause-ok : goal.returns-clause-ok
returns-clause-ok g c =
    revise-told g.S.Session.instance c.args.t.now c.revise.new.self c.args.resource c.args.period c.args.upper c.revise.result c.answered.result c.answered.ensures.done c.answered.ensures.stop
    c.revise.ensures.planner c.revise.ensures.ok
