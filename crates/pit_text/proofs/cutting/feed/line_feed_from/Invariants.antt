use Rattle.pit_text.specs.Inside.Cutting.{HasNoFeedBefore}
use Rattle.pit_text.proofs.cutting.feed.line_feed_from.Given as goal

abbrev pub invariant-loop-at : goal.invariant-loop-at
invariant-loop-at l = HasNoFeedBefore l.text l.at
