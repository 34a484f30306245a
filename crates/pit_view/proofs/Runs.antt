-- The runs of `value` and `check` have one outcome.
use Rattle.std.proofs.Common.{◌≡◌, ℕ, ℤ, ◌<◌, List, [], ◌∷◌, length, length-append, Option, IsSome, sym, ap, subst, ◌∙◌, arith}
use Rattle.pit_num.specs.Printed.{fixed_text}
use Rattle.pit_model.specs.Pit.{Pit}
use Rattle.pit_plan.specs.Schedule.{Commit, commit_of_schedule, held_period, limit_of, value_of}
use Rattle.pit_plan.specs.Shortfalls.{shortfalls_of}
use Rattle.pit_plan.specs.declared.breach.Breach.{Breach}
use Rattle.pit_plan.specs.declared.short.Short.{Short}
use Rattle.pit_plan.proofs.CallerLemmas.{one_first}
use Rattle.pit_step.specs.declared.input.Input.TheVariants.{Solution}
use Rattle.pit_step.specs.declared.fault.CliFault.TheVariants.{NoMemory}
use Rattle.pit_step.specs.declared.status.Status.{Status}
use Rattle.pit_step.specs.declared.status.Status.TheVariants.{Fine}
use Rattle.pit_step.specs.LineTexts.{value_text}
use Rattle.pit_step.specs.Steps.{HasOneOutcome}
use Rattle.pit_step.specs.Devices.{Reading, Writing, answer_step}
use Rattle.pit_step.specs.Inputs.{IsSolutionFault, model_step, ordered_pit_step}
use Rattle.pit_step.proofs.CallerLemmas.{IsSeen, IsDetermined, IsOneText, shown_run, input-determined, write-determined, write-shown, write-never_both, model-determined, ordered_pit-determined, decided-solution}
use Rattle.pit_view.specs.CheckText.{check_text, check_status}
use Rattle.pit_view.specs.Value.{IsValued, value_step, fine_step, value_run}
use Rattle.pit_view.specs.Check.{Checks, IsChecked, check_step, check_run}

-- ---- `value`

valued_text : (pit : Pit) (bytes : List ℕ) → IsOneText (IsValued pit bytes) (IsSolutionFault Solution pit bytes)
valued_text pit bytes =
    let one = (decided-solution Solution pit bytes).once in record {
      values = λ text other p q.
          p.says ∙ ap (λ (schedule : List (ℕ × ℕ)). value_text (value_of pit (held_period (commit_of_schedule schedule ∷ [])))) (one.values p.schedule q.schedule p.stands q.stands) ∙ sym q.says;
      apart = λ text fault some p q. one.apart p.schedule fault some p.stands q;
      faults = one.faults;
    }

value-determined : (solution : Reading) (pit : Pit) → IsSome solution.before → IsDetermined IsSeen (value_step solution) pit
value-determined solution pit told = input-determined Solution solution IsValued (IsSolutionFault Solution) pit told (valued_text pit)

-- a value's text has its line feed at least
value_some : (z : ℤ) → 0 < length (value_text z)
value_some z = omega (arith, length-append (fixed_text 18 z) (10 ∷ []))

same_length : (xs ys : List ℕ) → xs ≡ ys → 0 < length ys → 0 < length xs
same_length xs ys same some = let long : length xs ≡ length ys = ap length same in omega arith

pub value_outcome : (model solution : Reading) (out : Writing) → IsSome model.before → IsSome solution.before → IsSome out.before → HasOneOutcome NoMemory (value_run model solution out)
value_outcome model solution out told_model told_solution told_out =
    shown_run NoMemory (model_step model) (value_step solution) (fine_step out) (model-determined model told_model) (λ pit. value-determined solution pit told_solution)
    (λ text. write-determined out (λ (given : List ℕ). given) (λ given. Fine) text)
    (λ pit text p. write-shown out (λ (given : List ℕ). given) (λ given. Fine) text told_out (same_length text (value_text (value_of pit (held_period (commit_of_schedule p.2.schedule ∷ [])))) p.2.says (value_some (value_of pit (held_period (commit_of_schedule p.2.schedule ∷ []))))))
    (λ text. write-never_both out (λ (given : List ℕ). given) (λ given. Fine) text)

-- ---- `check`

same_answer : (answer other : List ℕ × Status) → answer.0 ≡ other.0 → answer.1 ≡ other.1 → answer ≡ other
same_answer answer other text status =
    ap (λ (xs : List ℕ). (xs, answer.1)) text ∙ ap (λ (s : Status). (other.0, s)) status

checks_once : (pit : Pit) (commits : List Commit) (answer other : List ℕ × Status) → Checks pit commits answer.0 answer.1 → Checks pit commits other.0 other.1 → answer ≡ other
checks_once pit commits answer other p q =
    let same : p.breach ≡ q.breach = one_first pit (held_period commits) (limit_of pit commits) p.breach q.breach p.first q.first in
    same_answer answer other
    (p.text_is ∙ ap (λ (breach : Option Breach). check_text (value_of pit (held_period commits)) breach (shortfalls_of pit (held_period commits))) same ∙ sym q.text_is)
    (p.status_is ∙ ap (λ (breach : Option Breach). check_status breach (shortfalls_of pit (held_period commits))) same ∙ sym q.status_is)

checked_text : (pit : Pit) (bytes : List ℕ) → IsOneText (IsChecked pit bytes) (IsSolutionFault Solution pit bytes)
checked_text pit bytes =
    let one = (decided-solution Solution pit bytes).once in record {
      values = λ answer other p q.
          checks_once pit (commit_of_schedule q.schedule ∷ []) answer other
          (subst (λ (schedule : List (ℕ × ℕ)). Checks pit (commit_of_schedule schedule ∷ []) answer.0 answer.1) (one.values p.schedule q.schedule p.stands q.stands) p.checks) q.checks;
      apart = λ answer fault some p q. one.apart p.schedule fault some p.stands q;
      faults = one.faults;
    }

check-determined : (solution : Reading) (pit : Pit) → IsSome solution.before → IsDetermined IsSeen (check_step solution) pit
check-determined solution pit told = input-determined Solution solution IsChecked (IsSolutionFault Solution) pit told (checked_text pit)

-- a check's text has the word `value` at least
check_some : (value : ℤ) (breach : Option Breach) (shorts : List Short) → 0 < length (check_text value breach shorts)
check_some value breach shorts = omega arith

pub check_outcome : (model precedence solution : Reading) (out : Writing) → IsSome model.before → IsSome precedence.before → IsSome solution.before → IsSome out.before
    → HasOneOutcome NoMemory (check_run model precedence solution out)
check_outcome model precedence solution out told_model told_precedence told_solution told_out =
    shown_run NoMemory (ordered_pit_step model precedence) (check_step solution) (answer_step out) (ordered_pit-determined model precedence told_model told_precedence)
    (λ pit. check-determined solution pit told_solution)
    (λ answer. write-determined out (λ (given : List ℕ × Status). given.0) (λ given. given.1) answer)
    (λ pit answer p. write-shown out (λ (given : List ℕ × Status). given.0) (λ given. given.1) answer told_out
    (same_length answer.0 (check_text (value_of pit (held_period (commit_of_schedule p.2.schedule ∷ []))) p.2.checks.breach (shortfalls_of pit (held_period (commit_of_schedule p.2.schedule ∷ [])))) p.2.checks.text_is
    (check_some (value_of pit (held_period (commit_of_schedule p.2.schedule ∷ []))) p.2.checks.breach (shortfalls_of pit (held_period (commit_of_schedule p.2.schedule ∷ []))))))
    (λ answer. write-never_both out (λ (given : List ℕ × Status). given.0) (λ given. given.1) answer)
