use Rattle.std.proofs.Common.{arith}
use Rattle.std.proofs.lemmas.Bool.{eq-eqb}
use Rattle.pit_text.proofs.Feeds.{first_feed, no_feed}
use Rattle.pit_text.proofs.cutting.feed.line_feed_from.Goals as goal

pub returns-then-text-at-eq10 : goal.returns-then-text-at-eq10
returns-then-text-at-eq10 c = first_feed c.args.text.now c.loop-at.at (omega arith) c.loop-at.invariant (eq-eqb _ _ c.if-text-at-eq10.true)

pub returns : goal.returns
returns c = no_feed c.args.text.now c.loop-at.at (omega arith) c.loop-at.invariant
