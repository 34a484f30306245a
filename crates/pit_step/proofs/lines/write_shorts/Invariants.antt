use Rattle.std.proofs.Common.{take}
use Rattle.std.specs.Io.KnownBytes.{Appends}
use Rattle.pit_step.specs.LineTexts.{shorts_text}
use Rattle.pit_step.proofs.lines.write_shorts.Given as goal

abbrev pub invariant-loop-short : goal.invariant-loop-short
invariant-loop-short g l = Appends (g.W.Sink.contents l.fn.w) (g.W.Sink.contents l.w) (shorts_text (take l.short-index l.shorts))
