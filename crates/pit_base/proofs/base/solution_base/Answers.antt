use Rattle.pit_base.proofs.Bases.{by-mark, by-caller}
use Rattle.pit_base.proofs.base.solution_base.Goals as goal

pub returns-in-Some : goal.returns-in-Some
returns-in-Some g c =
    by-mark c.args.ours.now c.args.is_resumed c.args.from c.args.text.now c.marked_base.result (c.in-Some.commits, c.in-Some.digits.now) c.in-Some.ensures c.marked_base.ensures

pub returns-in-None : goal.returns-in-None
returns-in-None g c = by-caller c.args.ours.now c.args.is_resumed c.args.from c.args.text.now c.plain_base.result c.in-None.ensures c.plain_base.ensures
