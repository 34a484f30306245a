-- A write that was interrupted took nothing.
use Rattle.std.specs.Io.KnownBytes.{Keeps}
use Rattle.pit_num.proofs.sink.write_once.Given as goal

abbrev pub invariant-loop : goal.invariant-loop
invariant-loop g l = Keeps (g.W.Write.contents l.initial.writer) (g.W.Write.contents l.writer)
