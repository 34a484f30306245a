use Rattle.pit_cli.proofs.ReportLines.{jobs_begin, jobs_go_on}
use Rattle.pit_cli.proofs.report_text.write_jobs.Goals as goal

pub loop-i-init : goal.loop-i-init
loop-i-init g c = jobs_begin (g.W.Sink.contents c.args.w.now) c.args.planner c.args.outcomes.now

pub loop-i-preserved : goal.loop-i-preserved
loop-i-preserved g c = jobs_go_on _ _ _ c.args.planner c.args.outcomes.now c.loop-i.i _ c.loop-i-test.true c.loop-i.invariant c.in_ok-write_job.ensures
