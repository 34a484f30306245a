use Rattle.std.proofs.Common.{ℕ, List, ap, subst, rules}
use Rattle.std.specs.Io.KnownBytes.{Appends}
use Rattle.pit_num.specs.Printed.{AppendsFront}
use Rattle.pit_serve.specs.Phases.{phase_of}
use Rattle.pit_serve.proofs.Showing.{shown_line}
use Rattle.pit_serve.proofs.reply.tell.Goals as goal

pub returns-in-Ok : goal.returns-in-Ok
returns-in-Ok g c =
    let line = shown_line (phase_of c.args.phase.now) c.in-Idle.planner c.args.answer c.in-Ended.reply c.in-Ended.is_saved c.args.durable.now (ap phase_of c.in-Idle.is) c.in-Ended.is c.requires in
    subst (λ (text : List ℕ). Appends (g.O.Sink.contents c.args.out.now) (g.O.Sink.contents c.tell_ending.new.out) text) line c.in-Ok.ensures.ok

pub returns-in-Err-Output : goal.returns-in-Err-Output
returns-in-Err-Output g c =
    let line = shown_line (phase_of c.args.phase.now) c.in-Idle.planner c.args.answer c.in-Ended.reply c.in-Ended.is_saved c.args.durable.now (ap phase_of c.in-Idle.is) c.in-Ended.is c.requires in
    subst (λ (text : List ℕ). AppendsFront (g.O.Sink.contents c.args.out.now) (g.O.Sink.contents c.tell_ending.new.out) text) line (search rules)
