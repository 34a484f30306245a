use Rattle.std.proofs.Common.{◌≤◌, None}
use Rattle.pit_serve.specs.Sessions.{Turns, first_standing}
use Rattle.pit_serve.specs.Inside.Turning.{standing_of}
use Rattle.pit_serve.proofs.sitting.sit.Given as goal

abbrev pub invariant-loop-turns : goal.invariant-loop-turns
invariant-loop-turns g l =
    Turns g.S.Session.instance g.S.Session.max_entries (first_standing l.fn.planner) (standing_of l.sitting) (g.I.Read.remaining l.initial.input) (g.I.Read.remaining l.input)
    (g.O.Sink.contents l.initial.output) (g.O.Sink.contents l.output) None l.replies
    × (l.replies ≤ l.turns)
