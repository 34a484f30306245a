use Rattle.pit_script.specs.Jobs.{Job}
use Rattle.pit_job.specs.Inside.Runs.{job_numbered}
use Rattle.pit_job.proofs.Trying.{abandoned-tries, committed-tries, aborted-tries, failed-tries}
use Rattle.pit_job.proofs.attempt.done.Goals as goal

pub returns-in-Err-clause-tries : goal.returns-in-Err-clause-tries
returns-in-Err-clause-tries g c =
    let task : Job = record { steps = c.job-end.result.0.now; end = c.job-end.result.1 } in
    abandoned-tries g.S.Session.instance g.S.Session.max_entries task (job_numbered c.args.script.now.jobs c.args.n) c.args.n c.args.t c.do_steps.new.t c.abandon.result c.in-Err.stop c.tried_at.result
    c.job-end.ensures.job c.requires.fresh c.do_steps.ensures.sees c.in-Err.ensures.err c.abandon.ensures c.tried_at.ensures

pub returns-in-Abort-clause-tries : goal.returns-in-Abort-clause-tries
returns-in-Abort-clause-tries g c =
    let task : Job = record { steps = c.job-end.result.0.now; end = c.job-end.result.1 } in
    aborted-tries g.S.Session.instance g.S.Session.max_entries task (job_numbered c.args.script.now.jobs c.args.n) c.args.n c.args.t c.do_steps.new.t c.in-Ok-true.field-0 c.withdraw.result.0 c.withdraw.result.1
    c.job-end.ensures.job c.in-Abort.is c.requires.fresh c.in-Ok-true.field-0-test c.in-Ok-true.ensures.ok c.withdraw.ensures.ends

pub returns-in-Commit-clause-tries : goal.returns-in-Commit-clause-tries
returns-in-Commit-clause-tries g c =
    let task : Job = record { steps = c.job-end.result.0.now; end = c.job-end.result.1 } in
    committed-tries g.S.Session.instance g.S.Session.max_entries task (job_numbered c.args.script.now.jobs c.args.n) c.args.n c.args.t c.do_steps.new.t c.in-Ok-true.field-0 c.commit.result.0 c.commit.result.1
    c.job-end.ensures.job c.in-Commit.is c.requires.fresh c.in-Ok-true.field-0-test c.in-Ok-true.ensures.ok c.commit.ensures.ends

pub returns-in-Ok-false-clause-tries : goal.returns-in-Ok-false-clause-tries
returns-in-Ok-false-clause-tries g c =
    let task : Job = record { steps = c.job-end.result.0.now; end = c.job-end.result.1 } in
    failed-tries g.S.Session.instance g.S.Session.max_entries task (job_numbered c.args.script.now.jobs c.args.n) c.args.n c.args.t c.do_steps.new.t c.in-Ok-false.field-0 c.withdraw-in-Ok-false.result.0
    c.withdraw-in-Ok-false.result.1 c.job-end.ensures.job c.requires.fresh c.in-Ok-false.field-0-test c.in-Ok-false.ensures.ok c.withdraw-in-Ok-false.ensures.ends
