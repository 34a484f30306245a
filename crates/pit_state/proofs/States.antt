-- What a text stands for, by which of the two it is.
use Rattle.std.proofs.Common.{◌≡◌, ℕ, List, true, false, inl, inr, refl, sym, subst}
use Rattle.pit_model.specs.Pit.{Pit}
use Rattle.pit_plan.specs.Schedule.{Commit}
use Rattle.pit_plan.specs.Standing.{Standing, IsPlanOf}
use Rattle.pit_desk.specs.History.{Answered, commits_of}
use Rattle.pit_lines.specs.Lines.{StandsForHistory}
use Rattle.pit_step.specs.declared.input.Input.{Input}
use Rattle.pit_step.specs.declared.fault.CliFault.{CliFault}
use Rattle.pit_step.specs.declared.fault.CliFault.TheVariants.{NoMemory}
use Rattle.pit_step.specs.Inputs.{IsSolutionOf, IsSolutionFault, IsHistoryFault}
use Rattle.pit_step.proofs.CallerLemmas.{solution-stop}
use Rattle.pit_state.specs.States.{is_history, commits_of_schedule, EachFits, IsUnfit, IsHistoryState, IsSolutionState, IsHistoryStateFault, IsStateOf, IsStateFault, IsPlanRead}

-- ---- a history

pub history-state : (pit : Pit) (text : List ℕ) (commits : List Commit) → is_history text ≡ true → IsHistoryState pit text commits → IsStateOf pit text commits
unfolding IsStateOf
history-state pit text commits kind is = rw kind is

pub history-fault : (file : Input) (pit : Pit) (text : List ℕ) (fault : CliFault) → is_history text ≡ true → IsHistoryStateFault file pit text fault → IsStateFault file pit text fault
unfolding IsStateFault
history-fault file pit text fault kind is = rw kind is

pub history-read : (pit : Pit) (text : List ℕ) (entries : List Answered) (plan : Standing) → is_history text ≡ true → StandsForHistory text entries
    → (plan.pit ≡ pit) × EachFits pit entries × IsPlanOf plan (commits_of entries) → IsPlanRead pit text plan
history-read pit text entries plan kind stands is = record {
  commits = commits_of entries;
  stands = history-state pit text (commits_of entries) kind (record { entries = entries; stands = stands; fits = is.1; are = refl });
  same_pit = is.0;
  leaves = is.2;
}

pub history-unfit : (file : Input) (pit : Pit) (text : List ℕ) (entries : List Answered) (fault : CliFault) → is_history text ≡ true → StandsForHistory text entries
    → IsUnfit file pit entries fault → IsStateFault file pit text fault
history-unfit file pit text entries fault kind stands is = history-fault file pit text fault kind (inr (entries, stands, is))

pub history-bad : (file : Input) (pit : Pit) (text : List ℕ) (fault : CliFault) → is_history text ≡ true → IsHistoryFault file text fault → IsStateFault file pit text fault
history-bad file pit text fault kind is = history-fault file pit text fault kind (inl is)

-- ---- a solution

pub solution-state : (pit : Pit) (text : List ℕ) (commits : List Commit) → is_history text ≡ false → IsSolutionState pit text commits → IsStateOf pit text commits
unfolding IsStateOf
solution-state pit text commits kind is = rw kind is

pub solution-bad : (file : Input) (pit : Pit) (text : List ℕ) (fault : CliFault) → is_history text ≡ false → IsSolutionFault file pit text fault → IsStateFault file pit text fault
unfolding IsStateFault
solution-bad file pit text fault kind is = rw kind is

pub solution-read : (pit : Pit) (text : List ℕ) (schedule : List (ℕ × ℕ)) (plan : Standing) → is_history text ≡ false → IsSolutionOf pit text schedule
    → (plan.pit ≡ pit) × IsPlanOf plan (commits_of_schedule schedule) → IsPlanRead pit text plan
solution-read pit text schedule plan kind stands is = record {
  commits = commits_of_schedule schedule;
  stands = solution-state pit text (commits_of_schedule schedule) kind (record { schedule = schedule; stands = stands; are = refl });
  same_pit = is.0;
  leaves = is.1;
}

pub solution-wants : (file : Input) (pit : Pit) (text : List ℕ) (schedule : List (ℕ × ℕ)) (fault : CliFault) → is_history text ≡ false → IsSolutionOf pit text schedule
    → fault ≡ NoMemory → IsStateFault file pit text fault
solution-wants file pit text schedule fault kind stands is =
    solution-bad file pit text fault kind (subst (λ (f : CliFault). IsSolutionFault file pit text f) (sym is) (solution-stop pit text schedule stands))
