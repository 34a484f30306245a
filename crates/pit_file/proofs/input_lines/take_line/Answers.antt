use Rattle.std.proofs.Common.{rules}
use Rattle.pit_file.proofs.Gathering.{goes_on, front_taken, taken_fed, taken_end}
use Rattle.pit_file.proofs.input_lines.take_line.Goals as goal

pub returns-in-Err-clause-fault : goal.returns-in-Err-clause-fault
returns-in-Err-clause-fault g c = front_taken _ _ _ c.args.most c.loop.was_long c.loop.line.items c.read_on.new.line.items c.loop.invariant.given c.in-Err.ensures.fault

pub returns-in-Ok-Fed-clause-taken : goal.returns-in-Ok-Fed-clause-taken
returns-in-Ok-Fed-clause-taken g c =
    rw c.fed.ensures (taken_fed _ _ _ c.args.most c.loop.was_long c.loop.line.items c.read_on.new.line.items c.loop.invariant.given c.in-Ok-Fed.field-0 (search rules) c.in-Ok-Fed.ensures.turn)

pub returns-in-Ok-Ended-clause-taken : goal.returns-in-Ok-Ended-clause-taken
returns-in-Ok-Ended-clause-taken g c =
    rw (c.ended.ensures, c.as_slice.ensures.value) (taken_end _ _ _ c.args.most c.loop.was_long c.loop.line.items c.read_on.new.line.items c.loop.invariant.given c.in-Ok-Ended.field-0 (search rules) c.in-Ok-Ended.ensures.turn)

pub loop-preserved : goal.loop-preserved
loop-preserved g c = record {
  given = goes_on _ _ _ c.args.most c.loop.was_long c.loop.line.items c.read_on.new.line.items c.loop.invariant.given c.in-Ok-Further.is_long c.in-Ok-Further.field-0 (search rules) c.in-Ok-Further.ensures.turn;
  bounded = search rules;
}
