use Rattle.std.proofs.Common.{◌≡◌}
use Rattle.pit_board.proofs.writer.BoardWriter.placed_reader.Given as goal

abbrev pub invariant-loop : goal.invariant-loop
invariant-loop g l = l.self ≡ l.initial.self
