-- Where there is no memory for what a text stands for.
use Rattle.std.proofs.Common.{ℕ, Bool, true, false, List, inr}
use Rattle.pit_model.specs.Pit.{Pit}
use Rattle.pit_plan.specs.Schedule.{Commit}
use Rattle.pit_step.specs.declared.input.Input.{Input}
use Rattle.pit_step.specs.declared.fault.CliFault.TheVariants.{NoMemory}
use Rattle.pit_step.proofs.CallerLemmas.{solution-stop}
use Rattle.pit_state.specs.States.{is_history, IsStateBy, IsStateFaultBy, IsStateOf, IsStateFault}

by_kind : (kind : Bool) (file : Input) (pit : Pit) (text : List ℕ) (commits : List Commit) → IsStateBy kind pit text commits → IsStateFaultBy kind file pit text NoMemory
by_kind true file pit text commits is = inr (is.entries, is.stands, tt)
by_kind false file pit text commits is = solution-stop pit text is.schedule is.stands

pub state-stop : (file : Input) (pit : Pit) (text : List ℕ) (commits : List Commit) → IsStateOf pit text commits → IsStateFault file pit text NoMemory
unfolding IsStateOf IsStateFault
state-stop file pit text commits is = by_kind (is_history text) file pit text commits is
