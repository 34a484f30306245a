use Rattle.std.proofs.Common.{List, inr}
use Rattle.std.proofs.lemmas.Result.{MatchResult-weaker}
use Rattle.pit_model.specs.Pit.{Pit}
use Rattle.pit_plan.specs.Schedule.{Commit}
use Rattle.pit_step.specs.declared.input.Input.TheVariants.{Old}
use Rattle.pit_step.specs.Steps.{beside}
use Rattle.pit_step.specs.Devices.{reading_of}
use Rattle.pit_state.specs.States.{state_step}
use Rattle.pit_diff.proofs.engine.diff_of.Goals as goal

pub returns-in-Ok : goal.returns-in-Ok
returns-in-Ok g c =
    let read = reading_of (g.O.Source.remaining c.args.old.now) (g.O.Source.remaining c.read_old.new.old) (g.O.Source.has_failed c.read_old.new.old) in
    let given = c.in-Ok.ensures.0 in
    let commits : List Commit = given.2.commits in
    let both : Pit × List Commit = (c.in-Ok.pit, commits) in
    let gives : (beside (state_step Old read)).Gives c.args.pit both = (c.in-Ok.ensures.1, (given.0, given.1, given.2.stands)) in
    MatchResult-weaker c.diff_from.result (c.diff_from.ensures commits given.2.leaves) (λ status is. (both, gives, is)) (λ fault is. inr (both, gives, is))
