-- What is told of a plan that was read.
use Rattle.std.proofs.Common.{◌≡◌, ℕ, List, Result, MatchResult, ap, ◌∙◌}
use Rattle.pit_model.specs.Pit.{Pit}
use Rattle.pit_plan.specs.Schedule.{Commit}
use Rattle.pit_plan.specs.Standing.{Standing, IsPlanOf}
use Rattle.pit_step.specs.declared.input.Input.{Input}
use Rattle.pit_step.specs.declared.status.Status.{Status}
use Rattle.pit_step.specs.declared.fault.CliFault.{CliFault}
use Rattle.pit_step.specs.declared.fault.CliFault.TheVariants.{NoMemory}
use Rattle.pit_step.specs.Devices.{Reading}
use Rattle.pit_step.proofs.CallerLemmas.{made}
use Rattle.pit_state.specs.States.{IsStateFault, IsPlanRead, plan_step}
use Rattle.pit_state.specs.Views.{IsViewed, view_step}
use Rattle.pit_state.proofs.Stops.{state-stop}

abbrev Answer : Type 0
Answer = List ℕ × Status

-- it is what the function says of each list of commits that the plan stands for
abbrev pub IsSaid : (Pit → List Commit → Answer) → Standing → Answer → Type 0
IsSaid answer_of plan answer = (commits : List Commit) → IsPlanOf plan commits → answer ≡ answer_of plan.pit commits

module _ (answer_of : Pit → List Commit → Answer) (file : Input) (schedule : Reading) (pit : Pit) (plan : Standing) where
  make : (text : List ℕ) (answer : Answer) → IsPlanRead pit text plan → IsSaid answer_of plan answer → IsViewed answer_of pit text answer
  make text answer read said = record {
    commits = read.commits;
    stands = read.stands;
    says = said read.commits read.leaves ∙ ap (λ (p : Pit). answer_of p read.commits) read.same_pit;
  }

  pub viewed : {X : Type 0} (value_of : X → Answer) (result : Result X CliFault) → (plan_step file schedule).Gives pit plan
      → MatchResult result (λ x. IsSaid answer_of plan (value_of x)) (λ fault. fault ≡ NoMemory)
      → MatchResult result (λ x. (view_step answer_of file schedule).Gives pit (value_of x)) ((view_step answer_of file schedule).Fails pit)
  viewed value_of result read answered =
      made file schedule IsPlanRead (IsViewed answer_of) (IsStateFault file) pit value_of plan (λ x. IsSaid answer_of plan (value_of x)) result
      (λ text x stands said. make text (value_of x) stands said) (λ text stands. state-stop file pit text stands.commits stands.stands) read answered
