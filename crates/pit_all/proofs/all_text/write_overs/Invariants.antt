use Rattle.std.proofs.Common.{take}
use Rattle.std.specs.Io.KnownBytes.{Appends}
use Rattle.pit_all.specs.AllText.{overs_text}
use Rattle.pit_all.proofs.all_text.write_overs.Given as goal

abbrev pub invariant-loop-over : goal.invariant-loop-over
invariant-loop-over g l = Appends (g.W.Sink.contents l.fn.w) (g.W.Sink.contents l.w) (overs_text (take l.over-index l.overs))
