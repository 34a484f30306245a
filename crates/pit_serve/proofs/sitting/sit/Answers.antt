use Rattle.std.proofs.Common.{◌+◌, Option, subst}
use Rattle.pit_serve.specs.Sessions.{Turns, first_standing}
use Rattle.pit_serve.specs.Inside.Turning.{standing_of}
use Rattle.pit_serve.specs.declared.session_end.SessionEnd.{SessionEnd}
use Rattle.pit_serve.proofs.Turning.{turns_on, turns_off}
use Rattle.pit_serve.proofs.sitting.sit.Goals as goal

pub returns-in-Some : goal.returns-in-Some
returns-in-Some g c =
    let first = first_standing c.args.planner in
    let last = standing_of c.turn-next.result.0 in
    let left = g.I.Read.remaining c.turn-next.new.input in
    let turns = turns_on g.S.Session.instance g.S.Session.max_entries first (standing_of c.loop-turns.sitting) last
    (g.I.Read.remaining c.args.input.now) (g.I.Read.remaining c.loop-turns.input) left
    (g.O.Sink.contents c.args.output.now) (g.O.Sink.contents c.loop-turns.output) (g.O.Sink.contents c.turn-next.new.output)
    c.turn-next.result.2 c.loop-turns.replies c.turn-next.result.1 c.loop-turns.invariant.0 c.turn-next.ensures.turns in
    record {
      last = last;
      left = left;
      turns = subst (λ (end : Option SessionEnd). Turns g.S.Session.instance g.S.Session.max_entries first last (g.I.Read.remaining c.args.input.now) left
          (g.O.Sink.contents c.args.output.now) (g.O.Sink.contents c.turn-next.new.output) end (c.loop-turns.replies + c.turn-next.result.1)) c.in-Some.is turns;
      closes = c.close.ensures;
    }

pub returns : goal.returns
returns g c =
    let last = standing_of c.loop-turns.sitting in
    let left = g.I.Read.remaining c.loop-turns.input in
    record {
      last = last;
      left = left;
      turns = turns_off g.S.Session.instance g.S.Session.max_entries (first_standing c.args.planner) last (g.I.Read.remaining c.args.input.now) left
          (g.O.Sink.contents c.args.output.now) (g.O.Sink.contents c.loop-turns.output) c.loop-turns.replies c.loop-turns.invariant.0;
      closes = c.close-2.ensures;
    }
