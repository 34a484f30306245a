-- A run on a desk that is open, as the steps of a plan have it.
use Rattle.std.proofs.Common.{inl, inr, ℕ, List, length, Result, Ok, Err, OnOk, IfOk, IfErr, MatchResult, refl, subst}
use Rattle.pit_model.specs.Pit.{Pit}
use Rattle.pit_desk.specs.History.{Answered}
use Rattle.pit_desk.specs.State.{State}
use Rattle.pit_desk.specs.declared.entry.TheConstants.{ENTRIES_MAX}
use Rattle.pit_opening.specs.Openings.{entries_before, IsDeskOn}
use Rattle.pit_share.specs.Opening.{IsPlannerCount}
use Rattle.pit_step.specs.declared.fault.CliFault.{CliFault}
use Rattle.pit_step.specs.declared.fault.CliFault.TheVariants.{PlannerCount, NoMemory, NoPlace, NotClosed}
use Rattle.pit_step.specs.Steps.{in_turn}
use Rattle.pit_cli.specs.Texts.{Texts, Setup, pit_in, opening_in, scripts_in, texts_judged}
use Rattle.pit_cli.specs.declared.plan_options.PlanOptions.{PlanOptions}
use Rattle.pit_cli.specs.Planning.{Ran, AreDone, IsRan, desk_judged, count_judged, plan_judged, planners_step}
use Rattle.pit_cli.specs.Inside.Runs.{IsFaultOn}

module _ (setup : Setup) (options : PlanOptions) where
  abbrev IsFault : CliFault → Type 0
  IsFault fault = IsFaultOn options.is_in_turn (pit_in setup) (entries_before (opening_in setup)) ENTRIES_MAX options.retries (scripts_in setup) fault

  -- it is of the number of planners, or of the run
  fault_of_run : (fault : CliFault) → IsFault fault → (in_turn count_judged (planners_step options)).Fails setup fault
  fault_of_run PlannerCount p = inl ((refl, p), tt)
  fault_of_run NoMemory p = inr (setup, (refl, p), tt)
  fault_of_run NoPlace p = inr (setup, (refl, p), tt)
  fault_of_run NotClosed p = inr (setup, (refl, p.0), p.1)
  fault_of_run other p = absurd p

  module _ {B : Type 0} (ran : B → Ran) (desk : State) (opened : IsDeskOn (pit_in setup) (opening_in setup) desk) where
    abbrev run_gives : B → Type 0
    run_gives b = (in_turn desk_judged (in_turn count_judged (planners_step options))).Gives setup (ran b)

    abbrev run_fails : CliFault → Type 0
    run_fails fault = (in_turn desk_judged (in_turn count_judged (planners_step options))).Fails setup fault

    report_as : (b : B) → AreDone options.is_in_turn desk.plan.pit desk.history desk.max_entries options.retries (scripts_in setup) (ran b) → IsRan setup options (ran b)
    report_as b is =
        subst (λ (p : Pit). AreDone options.is_in_turn p (entries_before (opening_in setup)) ENTRIES_MAX options.retries (scripts_in setup) (ran b)) opened.same_pit
        (subst (λ (es : List Answered). AreDone options.is_in_turn desk.plan.pit es ENTRIES_MAX options.retries (scripts_in setup) (ran b)) opened.history
        (subst (λ (n : ℕ). AreDone options.is_in_turn desk.plan.pit desk.history n options.retries (scripts_in setup) (ran b)) opened.limit is))

    fault_as : (fault : CliFault) → IsFaultOn options.is_in_turn desk.plan.pit desk.history desk.max_entries options.retries (scripts_in setup) fault → IsFault fault
    fault_as fault is =
        subst (λ (p : Pit). IsFaultOn options.is_in_turn p (entries_before (opening_in setup)) ENTRIES_MAX options.retries (scripts_in setup) fault) opened.same_pit
        (subst (λ (es : List Answered). IsFaultOn options.is_in_turn desk.plan.pit es ENTRIES_MAX options.retries (scripts_in setup) fault) opened.history
        (subst (λ (n : ℕ). IsFaultOn options.is_in_turn desk.plan.pit desk.history n options.retries (scripts_in setup) fault) opened.limit is))

    pub from_desk : (result : Result B CliFault) → OnOk result (IsPlannerCount (length (scripts_in setup)))
        → IfOk result (λ b. AreDone options.is_in_turn desk.plan.pit desk.history desk.max_entries options.retries (scripts_in setup) (ran b))
        → IfErr result (IsFaultOn options.is_in_turn desk.plan.pit desk.history desk.max_entries options.retries (scripts_in setup)) → MatchResult result run_gives run_fails
    from_desk (Ok b) count report fault = (setup, (refl, opened.is_good), (setup, (refl, count), report_as b report))
    from_desk (Err f) count report fault = inr (setup, (refl, opened.is_good), fault_of_run f (fault_as f fault))

-- what the texts stand for was run
pub judged_gives : (texts : Texts) (options : PlanOptions) (setup : Setup) (ran : Ran) → (texts_judged texts).Gives tt setup → (in_turn desk_judged (in_turn count_judged (planners_step options))).Gives setup ran
    → (in_turn (plan_judged texts) (planners_step options)).Gives tt ran
judged_gives texts options setup ran stands (s, d, (t, c, r)) = (t, (setup, stands, (s, d, c)), r)

pub judged_fails : (texts : Texts) (options : PlanOptions) (setup : Setup) (fault : CliFault) → (texts_judged texts).Gives tt setup → (in_turn desk_judged (in_turn count_judged (planners_step options))).Fails setup fault
    → (in_turn (plan_judged texts) (planners_step options)).Fails tt fault
judged_fails texts options setup fault stands (inl (d, left)) = inl (inr (setup, stands, inl (d, tt)), tt)
judged_fails texts options setup fault stands (inr (s, d, inl (c, left))) = inl (inr (setup, stands, inr (s, d, c)), tt)
judged_fails texts options setup fault stands (inr (s, d, inr (t, c, r))) = inr (t, (setup, stands, (s, d, c)), r)
