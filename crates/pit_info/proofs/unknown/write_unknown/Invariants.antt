use Rattle.std.proofs.Common.{length}
use Rattle.pit_text.specs.Cutting.{cut_of}
use Rattle.pit_text.specs.Left.{lines_left}
use Rattle.pit_info.proofs.Spans.{IsReadSo}
use Rattle.pit_info.proofs.unknown.write_unknown.Given as goal

abbrev pub invariant-loop-line : goal.invariant-loop-line
invariant-loop-line g l = IsReadSo (g.W.Sink.contents l.fn.w) (g.W.Sink.contents l.w) (cut_of l.fn.model) (lines_left l.lines) l.span

abbrev pub decreases-loop-line : goal.decreases-loop-line
decreases-loop-line g l = length (lines_left l.lines)
