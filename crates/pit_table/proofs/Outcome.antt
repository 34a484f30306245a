-- The run of `table` has one outcome.
use Rattle.std.proofs.Common.{◌≡◌, ℕ, ◌<◌, List, length, IsSome, ap, arith}
use Rattle.pit_model.specs.Pit.{Pit}
use Rattle.pit_plan.specs.Schedule.{Commit}
use Rattle.pit_step.specs.declared.input.Input.TheVariants.{Schedule}
use Rattle.pit_step.specs.declared.status.Status.{Status}
use Rattle.pit_step.specs.declared.fault.CliFault.TheVariants.{NoMemory}
use Rattle.pit_step.specs.Steps.{HasOneOutcome}
use Rattle.pit_step.specs.Devices.{Reading, Writing, answer_step}
use Rattle.pit_step.specs.Inputs.{model_step}
use Rattle.pit_step.proofs.CallerLemmas.{IsOneHistory, IsNeverBad, IsOneFault, shown_run, input-determined, write-determined, write-shown, write-never_both, model-determined}
use Rattle.pit_state.specs.States.{IsStateFault}
use Rattle.pit_state.specs.Views.{IsViewed, view_step}
use Rattle.pit_state.proofs.CallerLemmas.{view_text}
use Rattle.pit_table.specs.CsvText.{csv_text, row_text, table_answer}
use Rattle.pit_table.specs.Table.{table_run}

-- the text has the word `period` at least
some_text : (pit : Pit) (commits : List Commit) → 0 < length (table_answer pit commits).0
unfolding csv_text row_text
some_text pit commits = omega arith

told_some : (pit : Pit) (text : List ℕ) (answer : List ℕ × Status) → IsViewed table_answer pit text answer → 0 < length answer.0
told_some pit text answer is =
    let same : length answer.0 ≡ length (table_answer pit is.commits).0 = ap (λ (a : List ℕ × Status). length a.0) is.says in
    omega (arith, same, some_text pit is.commits)

module _ (one_history : IsOneHistory) (never_bad : IsNeverBad) (one_fault : IsOneFault) where
  pub table_outcome : (model schedule : Reading) (out : Writing) → IsSome model.before → IsSome schedule.before → IsSome out.before → HasOneOutcome NoMemory (table_run model schedule out)
  table_outcome model schedule out told_model told_schedule told_out =
      shown_run NoMemory (model_step model) (view_step table_answer Schedule schedule) (answer_step out)
      (model-determined model told_model)
      (λ pit. input-determined Schedule schedule (IsViewed table_answer) (IsStateFault Schedule) pit told_schedule (λ text. view_text one_history never_bad one_fault Schedule pit text table_answer))
      (λ answer. write-determined out (λ (given : List ℕ × Status). given.0) (λ given. given.1) answer)
      (λ pit answer p. write-shown out (λ (given : List ℕ × Status). given.0) (λ given. given.1) answer told_out (told_some pit p.0 answer p.2))
      (λ answer. write-never_both out (λ (given : List ℕ × Status). given.0) (λ given. given.1) answer)
