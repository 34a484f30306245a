use Rattle.std.proofs.Common.{◌-◌, ◌≤◌, length}
use Rattle.pit_text.specs.Inside.Cutting.{HasNoFeedBefore}
use Rattle.pit_text.proofs.cutting.feed.line_feed.Given as goal

abbrev pub invariant-loop-from : goal.invariant-loop-from
invariant-loop-from l = record {
  place : l.from ≤ length l.text;
  before : HasNoFeedBefore l.text l.from;
}

abbrev pub decreases-loop-from : goal.decreases-loop-from
decreases-loop-from l = length l.text - l.from
