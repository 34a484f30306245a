use Rattle.std.proofs.Common.{take}
use Rattle.std.specs.Io.KnownBytes.{Appends}
use Rattle.pit_live.specs.Sittings.{sittings_text}
use Rattle.pit_live.proofs.report.write_sittings.Given as goal

abbrev pub invariant-loop-sitting : goal.invariant-loop-sitting
invariant-loop-sitting g l = Appends (g.W.Sink.contents l.fn.w) (g.W.Sink.contents l.w) (sittings_text (take l.sitting-index l.sittings))
