use Rattle.pit_log.proofs.CallerLemmas.{pieces-more}
use Rattle.pit_plan.specs.Standing.{period_of}
use Rattle.pit_edit.specs.EditText.{conflict_at}
use Rattle.pit_edit.specs.Inside.Reviews.{writer_in}
use Rattle.pit_edit.proofs.conflicts.write_lines.Goals as goal

pub loop-b-preserved : goal.loop-b-preserved
loop-b-preserved g c =
    pieces-more (g.W.Sink.contents c.args.w.now) (g.W.Sink.contents c.loop-b.w) (g.W.Sink.contents c.write_conflict.new.w)
    (conflict_at c.args.edit.now (period_of c.args.plan.now) (writer_in c.args.plan.now c.args.makers.now)) c.args.blocks.now c.loop-b.b-index 0 c.loop-b-test.true c.loop-b.invariant
    c.in_ok-write_conflict.ensures
