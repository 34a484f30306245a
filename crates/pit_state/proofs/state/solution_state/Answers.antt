use Rattle.std.proofs.Common.{sym, subst}
use Rattle.std.proofs.lemmas.Result.{MatchResult-weaker}
use Rattle.pit_step.specs.Inputs.{IsSolutionOf}
use Rattle.pit_state.proofs.States.{solution-read, solution-wants, solution-bad}
use Rattle.pit_state.proofs.state.solution_state.Goals as goal

pub returns-in-Ok : goal.returns-in-Ok
returns-in-Ok g c =
    let text = c.args.text.items in
    let schedule = c.deref.result.now in
    let stands = subst (IsSolutionOf c.args.pit text) (sym c.deref.ensures.value) c.in-Ok.ensures.result in
    MatchResult-weaker c.schedule_plan.result c.schedule_plan.ensures (λ plan is. solution-read c.args.pit text schedule plan c.requires.kind stands is)
    (λ fault is. solution-wants c.args.file c.args.pit text schedule fault c.requires.kind stands is)

pub returns-in-Err : goal.returns-in-Err
returns-in-Err g c = solution-bad c.args.file c.args.pit c.args.text.items c.in-Err.fault c.requires.kind c.in-Err.ensures.result
