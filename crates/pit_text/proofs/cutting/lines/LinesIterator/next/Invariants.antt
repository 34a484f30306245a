use Rattle.std.proofs.Common.{◌≡◌, length, false}
use Rattle.pit_text.specs.Left.{lines_left, end_left}
use Rattle.pit_text.proofs.cutting.lines.LinesIterator.next.Given as goal

abbrev pub invariant-loop-line : goal.invariant-loop-line
invariant-loop-line l = record {
  same : lines_left l.self ≡ lines_left l.fn.self;
  end : end_left l.self ≡ end_left l.fn.self;
  goes_on : l.self.has_ended ≡ false;
}

abbrev pub decreases-loop-line : goal.decreases-loop-line
decreases-loop-line l = length l.self.rest.now
