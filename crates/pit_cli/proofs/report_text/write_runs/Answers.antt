use Rattle.pit_cli.proofs.ReportLines.{runs_begin, runs_go_on}
use Rattle.pit_cli.proofs.report_text.write_runs.Goals as goal

pub loop-run-init : goal.loop-run-init
loop-run-init g c = runs_begin (g.W.Sink.contents c.args.w.now) c.args.runs.now

pub loop-run-preserved : goal.loop-run-preserved
loop-run-preserved g c =
    runs_go_on _ _ _ c.args.runs.now c.loop-run.run-index c.run-item.result c.loop-run-test.true c.run-item.is
    c.loop-run.invariant c.in_ok-write_run.ensures
