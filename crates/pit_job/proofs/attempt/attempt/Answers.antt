use Rattle.pit_job.specs.declared.outcome.JobStop.TheVariants.{NoMemory}
use Rattle.pit_job.specs.Inside.Runs.{job_numbered}
use Rattle.pit_job.proofs.Trying.{begun-tries, stopped-tries, fresh-of}
use Rattle.pit_job.proofs.attempt.attempt.Goals as goal

pub done-requires-clause-fresh : goal.done-requires-clause-fresh
done-requires-clause-fresh g c = λ κs lives. fresh-of g.S.Session.instance c.args.planner c.args.n c.in-Ok.t c.in-Ok.ensures.begun

pub returns-in-Ok : goal.returns-in-Ok
returns-in-Ok g c =
    begun-tries g.S.Session.instance g.S.Session.max_entries (job_numbered c.args.script.now.jobs c.args.n) c.args.n c.args.planner c.in-Ok.t.planner c.done.result.0 c.done.result.1
    c.in-Ok.ensures.begun.planner c.done.ensures.tries

pub returns-in-Err : goal.returns-in-Err
returns-in-Err g c =
    stopped-tries g.S.Session.instance g.S.Session.max_entries (job_numbered c.args.script.now.jobs c.args.n) c.args.n c.args.planner c.in-Err.planner NoMemory c.in-Err.ensures.err tt
