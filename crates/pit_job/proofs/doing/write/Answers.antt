use Rattle.pit_job.proofs.Stepping.{write-puts}
use Rattle.pit_job.proofs.doing.write.Goals as goal

pub returns-in-Some-clause-ok : goal.returns-in-Some-clause-ok
returns-in-Some-clause-ok g c =
    rw c.in-Some.is (write-puts c.args.t.now c.put.new.self c.args.b _ c.put.result c.answered.result c.answered.ensures.done c.answered.ensures.stop c.put.ensures.planner c.put.ensures.ok)

pub returns-in-None-clause-ok : goal.returns-in-None-clause-ok
returns-in-None-clause-ok g c =
    rw c.in-None.is (write-puts c.args.t.now c.clear.new.self c.args.b _ c.clear.result c.answered-in-None.result c.answered-in-None.ensures.done c.answered-in-None.ensures.stop c.clear.ensures.planner c.clear.ensures.ok)
