use Rattle.pit_script.specs.declared.step.Step.TheVariants as step
use Rattle.pit_job.specs.Inside.Doing.{StepStopsAt}
use Rattle.pit_job.proofs.Meeting.{stop-handed}
use Rattle.pit_job.proofs.Walking.{carry-stops}
use Rattle.pit_job.proofs.doing.carry_along.Goals as goal

pub returns-in_err-carry-clause-err : goal.returns-in_err-carry-clause-err
returns-in_err-carry-clause-err g c =
    stop-handed c.from_residual.result c.in_err-carry.field-0.0 (λ why. StepStopsAt g.S.Session.instance c.args.t.now (step.Carry c.args.way c.args.b c.args.period) why c.carry.new.t)
    c.from_residual.ensures.0 c.from_residual.ensures.1
    (carry-stops g.S.Session.instance c.args.way c.args.b c.args.period c.args.t.now c.carry.new.t c.in_err-carry.field-0.0 c.in_err-carry.ensures.err)
