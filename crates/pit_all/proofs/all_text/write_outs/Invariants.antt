use Rattle.std.proofs.Common.{take}
use Rattle.std.specs.Io.KnownBytes.{Appends}
use Rattle.pit_all.specs.AllText.{outs_text}
use Rattle.pit_all.proofs.all_text.write_outs.Given as goal

abbrev pub invariant-loop-pair : goal.invariant-loop-pair
invariant-loop-pair g l = Appends (g.W.Sink.contents l.fn.w) (g.W.Sink.contents l.w) (outs_text (take l.pair-index l.outs))
