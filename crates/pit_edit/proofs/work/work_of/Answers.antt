use Rattle.pit_edit.proofs.Works.{next-unread, next-unwritten, next-changed}
use Rattle.pit_edit.proofs.work.work_of.Goals as goal

pub change-requires-clause-unread : goal.change-requires-clause-unread
change-requires-clause-unread g c =
    next-unread c.args.plan.now.pit c.args.edit.now c.args.blocks.now c.loop-b.b-index c.loop-b.work c.loop-b-test.true c.loop-b.invariant c.requires.rising

pub change-requires-clause-unwritten : goal.change-requires-clause-unwritten
change-requires-clause-unwritten g c =
    next-unwritten c.args.plan.now.pit c.args.edit.now c.args.blocks.now c.loop-b.b-index c.loop-b.work c.loop-b-test.true c.loop-b.invariant c.requires.rising

pub loop-b-preserved : goal.loop-b-preserved
loop-b-preserved g c =
    next-changed c.args.plan.now.pit c.args.edit.now c.args.blocks.now c.loop-b.b-index c.loop-b.work c.loop-b-test.true c.loop-b.invariant c.change.new.work c.base_period.result c.wanted_period.result
    c.base_period.ensures c.wanted_period.ensures c.in_ok-change.ensures
