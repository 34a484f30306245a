use Rattle.std.proofs.Common.{◌∷◌, [], ℕ, List, subst}
use Rattle.pit_plan.specs.Schedule.{commit_of_schedule}
use Rattle.pit_step.specs.declared.input.Input.TheVariants.{Solution}
use Rattle.pit_step.specs.Devices.{reading_of}
use Rattle.pit_step.specs.Inputs.{IsSolutionOf, IsSolutionFault}
use Rattle.pit_view.specs.Check.{Checks, IsChecked}
use Rattle.pit_step.proofs.CallerLemmas.{made, solution-stop}
use Rattle.pit_view.proofs.engines.check.read_check.Goals as goal

pub returns-in-Ok : goal.returns-in-Ok
returns-in-Ok g c =
    let read = reading_of (g.S.Source.remaining c.args.solution.now) (g.S.Source.remaining c.read_schedule.new.solution) (g.S.Source.has_failed c.read_schedule.new.solution) in
    let pit = c.args.pit in
    let schedule = c.in-Ok.schedule.items in
    made Solution read IsSolutionOf IsChecked (IsSolutionFault Solution) pit (λ answer. (answer.0.items, answer.1)) schedule
    (λ answer. Checks pit (commit_of_schedule c.deref.result.now ∷ []) answer.0.items answer.1) c.checked.result
    (λ bytes answer stands is. record {
      schedule = schedule;
      stands = stands;
      checks = subst (λ (s : List (ℕ × ℕ)). Checks pit (commit_of_schedule s ∷ []) answer.0.items answer.1) c.deref.ensures.value is;
    })
    (λ bytes stands. solution-stop pit bytes schedule stands) c.in-Ok.ensures.read c.checked.ensures
