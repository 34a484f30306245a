use Rattle.std.proofs.Common.{Ok, Err}
use Rattle.pit_text.specs.Left.{fields_left}
use Rattle.pit_text.specs.Inside.Plain.{ArePair}
use Rattle.pit_text.proofs.Standing.{some_of}
use Rattle.pit_text.proofs.Solutions.{pair-schedules}
use Rattle.pit_text.proofs.solution.scheduled_pair.Goals as goal

pub returns-in-Ok-clause-value : goal.returns-in-Ok-clause-value
returns-in-Ok-clause-value c =
    let are = some_of c.args.pair (c.in-Some.block, c.in-Some.period) (λ numbers. ArePair (fields_left c.args.fields) numbers.0 numbers.1) c.in-Some.is c.requires in
    pair-schedules c.args.blocks c.args.periods (fields_left c.args.fields) c.in-Some.block c.in-Some.period (Ok c.in-Ok.pair) are c.in-Ok.ensures.value

pub returns-in-Err-clause-value : goal.returns-in-Err-clause-value
returns-in-Err-clause-value c =
    let are = some_of c.args.pair (c.in-Some.block, c.in-Some.period) (λ numbers. ArePair (fields_left c.args.fields) numbers.0 numbers.1) c.in-Some.is c.requires in
    pair-schedules c.args.blocks c.args.periods (fields_left c.args.fields) c.in-Some.block c.in-Some.period (Err c.in-Err.cause) are c.in-Err.ensures.value
