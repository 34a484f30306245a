-- The run of `diff` has one outcome.
use Rattle.std.proofs.Common.{◌≡◌, ℕ, List, IsSome, inl, inr, subst}
use Rattle.std.specs.Io.KnownBytes.{Keeps}
use Rattle.pit_model.specs.Pit.{Pit}
use Rattle.pit_plan.specs.Schedule.{Commit}
use Rattle.pit_step.specs.declared.input.Input.TheVariants.{Old, New}
use Rattle.pit_step.specs.declared.status.Status.{Status}
use Rattle.pit_step.specs.declared.fault.CliFault.TheVariants.{NoMemory}
use Rattle.pit_step.specs.Steps.{in_turn, beside, want_aside, HasOneOutcome}
use Rattle.pit_step.specs.Devices.{Reading, Writing, answer_step}
use Rattle.pit_step.specs.Inputs.{model_step}
use Rattle.pit_step.proofs.CallerLemmas.{IsDetermined, IsNeverBoth, IsSeen, IsOneHistory, IsNeverBad, IsOneFault, seen_run, shown_run, in_turn-determined, beside-determined, input-determined, write-determined, write-never_both, model-determined}
use Rattle.pit_state.specs.States.{IsStateOf, IsStateFault, state_step}
use Rattle.pit_state.specs.Views.{IsViewed}
use Rattle.pit_state.proofs.CallerLemmas.{state_text, view_text}
use Rattle.pit_diff.specs.DiffText.{diff_answer}
use Rattle.pit_diff.specs.Diff.{new_step, schedules_run, diff_run}

module _ (one_history : IsOneHistory) (never_bad : IsNeverBad) (one_fault : IsOneFault) (model old new : Reading) (out : Writing) (told_model : IsSome model.before) (told_old : IsSome old.before) (told_new : IsSome new.before) where
  one-old : (pit : Pit) → IsDetermined IsSeen (beside (state_step Old old)) pit
  one-old pit =
      beside-determined IsSeen (state_step Old old) pit
      (input-determined Old old IsStateOf (IsStateFault Old) pit told_old (λ text. state_text one_history never_bad one_fault Old pit text))

  one-new : (given : Pit × List Commit) → IsDetermined IsSeen (new_step new) given
  one-new given =
      input-determined New new (λ (g : Pit × List Commit). IsViewed (λ pit commits. diff_answer pit g.1 commits) g.0) (λ (g : Pit × List Commit). IsStateFault New g.0) given told_new
      (λ text. view_text one_history never_bad one_fault New given.0 text (λ pit commits. diff_answer pit given.1 commits))

  one-answer : (answer : List ℕ × Status) → IsDetermined IsSeen (answer_step out) answer
  one-answer answer = write-determined out (λ (given : List ℕ × Status). given.0) (λ given. given.1) answer

  one-last : (given : Pit × List Commit) → IsDetermined IsSeen (in_turn (new_step new) (answer_step out)) given
  one-last given = in_turn-determined IsSeen (new_step new) (answer_step out) given (one-new given) one-answer

  one-schedules : (pit : Pit) → IsDetermined IsSeen (schedules_run old new out) pit
  one-schedules pit = in_turn-determined IsSeen (beside (state_step Old old)) (in_turn (new_step new) (answer_step out)) pit (one-old pit) one-last

  one-run : IsDetermined IsSeen (diff_run model old new out) tt
  one-run = in_turn-determined IsSeen (model_step model) (schedules_run old new out) tt (model-determined model told_model) one-schedules

  -- ---- out of memory aside

  pub seen-outcome : HasOneOutcome NoMemory (want_aside NoMemory (diff_run model old new out))
  seen-outcome = seen_run NoMemory (diff_run model old new out) one-run

  -- ---- where something was written

  module _ (changed : Keeps out.before out.after → ⊥) where
    never : (given : Pit × List Commit) → IsNeverBoth (in_turn (new_step new) (answer_step out)) given
    never given value fault p (inl q) = changed q.1
    never given value fault p (inr q) =
        let same : p.0 ≡ q.0 = (one-new given).values p.0 q.0 p.1 q.1 in
        write-never_both out (λ (answer : List ℕ × Status). answer.0) (λ answer. answer.1) q.0 value fault
        (subst (λ (answer : List ℕ × Status). (answer_step out).Gives answer value) same p.2) q.2

    pub written-outcome : HasOneOutcome NoMemory (diff_run model old new out)
    written-outcome =
        shown_run NoMemory (model_step model) (beside (state_step Old old)) (in_turn (new_step new) (answer_step out)) (model-determined model told_model) one-old one-last
        (λ pit given gives value p untouched. changed untouched.1) never
