use Rattle.std.proofs.Common.{◌≤◌, List, ℕ, length}
use Rattle.std.specs.Io.KnownBytes.{Consumes}
use Rattle.pit_file.specs.InputLines.{HasNoFeed}
use Rattle.pit_file.specs.Inside.LineTurns.{IsKeptOf}
use Rattle.pit_file.proofs.input_lines.take_line.Given as goal

abbrev pub invariant-loop : goal.invariant-loop
invariant-loop g l = record {
  given : (front : List ℕ) × HasNoFeed front × Consumes (g.I.Read.remaining l.fn.input) (g.I.Read.remaining l.input) front × IsKeptOf l.most front l.was_long l.line.items;
  bounded : length l.line.items ≤ l.most;
}
