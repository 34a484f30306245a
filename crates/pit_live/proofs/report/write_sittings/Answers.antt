use Rattle.pit_live.proofs.SittingLines.{sittings_begin, sittings_go_on}
use Rattle.pit_live.proofs.report.write_sittings.Goals as goal

pub loop-sitting-init : goal.loop-sitting-init
loop-sitting-init g c = sittings_begin (g.W.Sink.contents c.args.w.now) c.args.sittings.now

pub loop-sitting-preserved : goal.loop-sitting-preserved
loop-sitting-preserved g c =
    sittings_go_on _ _ _ c.args.sittings.now c.loop-sitting.sitting-index _ c.loop-sitting-test.true
    c.loop-sitting.invariant c.in_ok-write_sitting.ensures
