use Rattle.std.proofs.Common.{map, take}
use Rattle.std.specs.Io.KnownBytes.{Appends}
use Rattle.pit_info.specs.Unknown.{shown_byte}
use Rattle.pit_info.proofs.unknown.write_shown.Given as goal

abbrev pub invariant-loop-byte : goal.invariant-loop-byte
invariant-loop-byte g l = Appends (g.W.Sink.contents l.fn.w) (g.W.Sink.contents l.w) (map shown_byte (take l.byte-index l.key))
