-- A run of a plan ends in one way.
use Rattle.std.proofs.Common.{◌≡◌, ◌≢◌, ◌⊎◌, inl, inr, ◌<◌, Bool, true, false, List, ◌++◌, length, length-append, codes, Option, IsSome, Result, Ok, Err, if◌then◌else◌, refl, sym, ap, subst, ◌∙◌, arith}
use Rattle.std.proofs.lemmas.List.{append_cancel_left}
use Rattle.pit_model.specs.Pit.{Pit}
use Rattle.pit_plan.specs.Schedule.{Commit, held_period, value_of}
use Rattle.pit_plan.specs.Shortfalls.{shortfalls_of}
use Rattle.pit_desk.specs.History.{commits_of}
use Rattle.pit_run.specs.Reports.{RunState}
use Rattle.pit_step.specs.LineTexts.{value_text, shorts_text}
use Rattle.pit_step.specs.Devices.{Writing}
use Rattle.pit_step.specs.Steps.{IsResultOf}
use Rattle.pit_step.specs.declared.fault.CliFault.{CliFault}
use Rattle.pit_step.specs.declared.fault.CliFault.TheVariants as cli
use Rattle.pit_step.specs.declared.status.Status.{Status}
use Rattle.pit_step.specs.Statuses.{fault_status}
use Rattle.pit_step.proofs.CallerLemmas.{never_two}
use Rattle.pit_cli.specs.ReportText.{runs_text}
use Rattle.pit_opening.specs.Beginnings.{is_carried_on, is_unbegun}
use Rattle.pit_cli.specs.declared.plan_options.PlanOptions.{PlanOptions}
use Rattle.pit_cli.specs.Texts.{Texts, Setup}
use Rattle.pit_cli.specs.Planning.{Ran, IsRan, IsRunFault, plan_judged}
use Rattle.pit_output.specs.Outputs.{new_line, Keeping, Outputs, IsUnwritten, HasFailed}
use Rattle.pit_output.proofs.CallerLemmas.{same_text, shown, AllWritten, outputs_given, outputs_failed, outputs_left}
use Rattle.pit_cli.specs.Output.{status_by, all_whole, all_granted, report_text, outputs_of, ran_end, IsKeptInRange, ran_run, plan_run}
use Rattle.pit_cli.specs.Outcomes.{MayRun, AreRefused, IsWritten, IsDecisive}
use Rattle.pit_opening.proofs.CallerLemmas.{IsEarly}
use Rattle.pit_cli.proofs.DecidedTexts.{IsOneBeginning}
use Rattle.pit_cli.proofs.ReportEnd.{one_report}
use Rattle.pit_cli.proofs.Refusals.{IsSomeOpening, IsOpeningApart, IsOneOpening, plan_early, never_refused, one_refusal}

-- ---- results

abbrev the_fault : CliFault → Result Status CliFault → CliFault
the_fault other (Ok status) = other
the_fault other (Err fault) = fault

abbrev err_of : CliFault → Result Status CliFault
err_of fault = Err fault

same_fault : (fault other : CliFault) (result : Result Status CliFault) → result ≡ Err fault → result ≡ Err other → fault ≡ other
same_fault fault other result p q = ap (the_fault fault) (sym p ∙ q)

only_stopped : (all : Bool) (status : Status) (fault : CliFault) → (if all then Ok status else Err cli.Stopped) ≡ Err fault → fault ≡ cli.Stopped
only_stopped true status fault is = let clash : ⊥ = cc in absurd clash
only_stopped false status fault is = same_fault fault cli.Stopped (Err cli.Stopped) is refl

end_stopped : (is_strict : Bool) (ran : Ran) (fault : CliFault) → ran_end is_strict ran ≡ Err fault → fault ≡ cli.Stopped
end_stopped is_strict ran fault is = only_stopped (all_whole ran.1) (status_by is_strict (all_granted ran.1) (shortfalls_of ran.0.plan.pit (held_period (commits_of ran.0.history)))) fault is

-- ---- devices

some_report : (is_new : Bool) (pit : Pit) (commits : List Commit) (runs : List RunState) → 0 < length (new_line is_new ++ report_text pit commits runs)
some_report is_new pit commits runs =
    let rest = codes "value " ++ (value_text (value_of pit (held_period commits)) ++ shorts_text (shortfalls_of pit (held_period commits))) in
    omega (arith, length-append (runs_text runs) rest, length-append (new_line is_new) (report_text pit commits runs))

module _ (out lines : Writing) (kept : Option Keeping) where
  module _ (texts : Texts) (options : PlanOptions) where
    abbrev outputs : Ran → Outputs
    outputs ran = outputs_of (is_unbegun texts.beginning) ran

    abbrev end_of : Ran → Result Status CliFault
    end_of ran = ran_end options.is_strict ran

    -- how what stands behind a run fails
    abbrev EndsLate : Ran → CliFault → Type 0
    EndsLate ran fault =
        ((fault ≡ cli.NoMemory) × IsUnwritten out lines kept)
        ⊎ (((fault ≡ cli.CannotWrite) × HasFailed out lines kept) ⊎ ((end_of ran ≡ Err fault) × AllWritten out lines kept (outputs ran)))

    ran_failed : (ran : Ran) (fault : CliFault) → (ran_run texts.beginning options.is_strict out lines kept ran).Fails tt fault → EndsLate ran fault
    ran_failed ran fault (inl (p, left)) = inl (p, outputs_left out lines kept (outputs ran) (end_of ran) (is_carried_on texts.beginning) left)
    ran_failed ran fault (inr (a, p, q)) = inr (outputs_failed out lines kept (outputs ran) (end_of ran) (is_carried_on texts.beginning) fault q)

    -- how a plan fails: before the run, in it, or behind it
    pub data Failure (fault : CliFault) : Type 0 where
      early : (plan_judged texts).Fails tt fault → IsUnwritten out lines kept → Failure fault
      in_run : (setup : Setup) → (plan_judged texts).Gives tt setup → IsRunFault setup options fault → IsUnwritten out lines kept → Failure fault
      late : (setup : Setup) (ran : Ran) → (plan_judged texts).Gives tt setup → IsRan setup options ran → IsKeptInRange kept ran.0.history → EndsLate ran fault → Failure fault

    -- what is handed on is the run
    as_ran : (setup : Setup) (ran same : Ran) → same ≡ ran → IsRan setup options ran → IsRan setup options same
    as_ran setup ran same is run = subst (λ (r : Ran). IsRan setup options r) (sym is) run

    in_range : (ran same : Ran) → same ≡ ran → IsKeptInRange kept ran.0.history → IsKeptInRange kept same.0.history
    in_range ran same is range = subst (λ (r : Ran). IsKeptInRange kept r.0.history) (sym is) range

    failure : (fault : CliFault) → (plan_run texts options out lines kept).Fails tt fault → Failure fault
    failure fault (inl (p, (a, (b, left)))) = early p left
    failure fault (inr (setup, judged, inl (p, (b, left)))) = in_run setup judged p left
    failure fault (inr (setup, judged, inr (ran, run, inl (p, left)))) = absurd p
    failure fault (inr (setup, judged, inr (ran, run, inr (same, (is, range), p)))) =
        late setup same judged (as_ran setup ran same is run) (in_range ran same is range) (ran_failed same fault p)

    written_of : (setup : Setup) (ran : Ran) (result : Result Status CliFault) → (plan_judged texts).Gives tt setup → IsRan setup options ran → IsKeptInRange kept ran.0.history → result ≡ end_of ran → AllWritten out lines kept (outputs ran)
        → IsWritten texts options out lines kept result
    written_of setup ran result judged run range is all = record {
      setup = setup;
      ran = ran;
      judged = judged;
      run = run;
      range = range;
      ended = is;
      solution = all.0;
      report = all.1;
      sound = all.2 (some_report (is_unbegun texts.beginning) ran.0.plan.pit (commits_of ran.0.history) ran.1);
      history = all.3;
    }

    pub given_written : (status : Status) → (plan_run texts options out lines kept).Gives tt status → IsWritten texts options out lines kept (Ok status)
    given_written status (setup, judged, (ran, run, (same, (is, range), (a, m, p)))) =
        let given = outputs_given out lines kept (outputs same) (end_of same) (is_carried_on texts.beginning) status p in
        written_of setup same (Ok status) judged (as_ran setup ran same is run) (in_range ran same is range) (sym given.0) given.1

    -- ---- by the fault

    never_early : (fault : CliFault) → fault_status fault ≡ 3 → fault ≢ cli.NoMemory → IsEarly fault → ⊥
    never_early fault three some (inl two) = never_two (sym three ∙ two)
    never_early fault three some (inr is) = some is

    run_three : (setup : Setup) (fault : CliFault) → IsRunFault setup options fault → fault_status fault ≡ 3
    run_three setup cli.NoMemory p = refl
    run_three setup cli.NoPlace p = refl
    run_three setup cli.NotClosed p = refl
    run_three setup other p = absurd p

    late_three : (ran : Ran) (fault : CliFault) → EndsLate ran fault → fault_status fault ≡ 3
    late_three ran fault (inl p) = ap fault_status p.0
    late_three ran fault (inr (inl p)) = ap fault_status p.0
    late_three ran fault (inr (inr p)) = ap fault_status (end_stopped options.is_strict ran fault p.0)

    late_stopped : (setup : Setup) (ran : Ran) → (plan_judged texts).Gives tt setup → IsRan setup options ran → IsKeptInRange kept ran.0.history → EndsLate ran cli.Stopped
        → IsWritten texts options out lines kept (Err cli.Stopped)
    late_stopped setup ran judged run range (inl p) = let clash : ⊥ = absurd (let is = p.0 in cc) in absurd clash
    late_stopped setup ran judged run range (inr (inl p)) = let clash : ⊥ = absurd (let is = p.0 in cc) in absurd clash
    late_stopped setup ran judged run range (inr (inr p)) = written_of setup ran (Err cli.Stopped) judged run range (sym p.0) p.1

    of_stopped : Failure cli.Stopped → IsWritten texts options out lines kept (Err cli.Stopped)
    of_stopped (early p left) = absurd (never_early cli.Stopped refl (λ is. cc) (plan_early texts cli.Stopped p))
    of_stopped (in_run setup judged p left) = absurd p
    of_stopped (late setup ran judged run range p) = late_stopped setup ran judged run range p

    pub stopped_written : (plan_run texts options out lines kept).Fails tt cli.Stopped → IsWritten texts options out lines kept (Err cli.Stopped)
    stopped_written p = of_stopped (failure cli.Stopped p)

    late_failed : (ran : Ran) → EndsLate ran cli.CannotWrite → HasFailed out lines kept
    late_failed ran (inl p) = let clash : ⊥ = absurd (let is = p.0 in cc) in absurd clash
    late_failed ran (inr (inl p)) = p.1
    late_failed ran (inr (inr p)) = let is = end_stopped options.is_strict ran cli.CannotWrite p.0 in let clash : ⊥ = cc in absurd clash

    of_failed : Failure cli.CannotWrite → MayRun texts × HasFailed out lines kept
    of_failed (early p left) = absurd (never_early cli.CannotWrite refl (λ is. cc) (plan_early texts cli.CannotWrite p))
    of_failed (in_run setup judged p left) = absurd p
    of_failed (late setup ran judged run range p) = ((setup, judged), late_failed ran p)

    pub failed_device : (plan_run texts options out lines kept).Fails tt cli.CannotWrite → MayRun texts × HasFailed out lines kept
    failed_device p = of_failed (failure cli.CannotWrite p)

    late_unwritten : (ran : Ran) (fault : CliFault) → fault ≢ cli.Stopped → fault ≢ cli.CannotWrite → EndsLate ran fault → IsUnwritten out lines kept
    late_unwritten ran fault some also (inl p) = p.1
    late_unwritten ran fault some also (inr (inl p)) = absurd (also p.0)
    late_unwritten ran fault some also (inr (inr p)) = absurd (some (end_stopped options.is_strict ran fault p.0))

    of_unwritten : (fault : CliFault) → fault ≢ cli.Stopped → fault ≢ cli.CannotWrite → Failure fault → IsUnwritten out lines kept
    of_unwritten fault some also (early p left) = left
    of_unwritten fault some also (in_run setup judged p left) = left
    of_unwritten fault some also (late setup ran judged run range p) = late_unwritten ran fault some also p

    pub fault_unwritten : (fault : CliFault) → fault ≢ cli.Stopped → fault ≢ cli.CannotWrite → (plan_run texts options out lines kept).Fails tt fault → IsUnwritten out lines kept
    fault_unwritten fault some also p = of_unwritten fault some also (failure fault p)

    pub written_seen : (result : Result Status CliFault) → IsSome lines.before → IsWritten texts options out lines kept result → IsUnwritten out lines kept → ⊥
    written_seen result tells is unwritten =
        shown lines (outputs is.ran).report tells (some_report (is_unbegun texts.beginning) is.ran.0.plan.pit (commits_of is.ran.0.history) is.ran.1) is.report is.sound unwritten.1

    -- the report's device shows how the run ended
    written_once : (result other : Result Status CliFault) → IsSome lines.before → IsWritten texts options out lines kept result → IsWritten texts options out lines kept other → result ≡ other
    written_once result other tells p q =
        p.ended
        ∙ one_report options.is_strict p.ran.0.plan.pit q.ran.0.plan.pit (commits_of p.ran.0.history) (commits_of q.ran.0.history) p.ran.1 q.ran.1
        (append_cancel_left (new_line (is_unbegun texts.beginning)) (report_text p.ran.0.plan.pit (commits_of p.ran.0.history) p.ran.1)
        (report_text q.ran.0.plan.pit (commits_of q.ran.0.history) q.ran.1) (same_text lines.before lines.after (outputs p.ran).report (outputs q.ran).report tells p.report q.report)) ∙ sym q.ended

    -- ---- by the texts

    of_refuses : (fault : CliFault) → fault_status fault ≡ 2 → Failure fault → AreRefused texts fault
    of_refuses fault two (early p left) = (p, two)
    of_refuses fault two (in_run setup judged p left) = absurd (never_two (sym (run_three setup fault p) ∙ two))
    of_refuses fault two (late setup ran judged run range p) = absurd (never_two (sym (late_three ran fault p) ∙ two))

    pub refuses : (fault : CliFault) → fault_status fault ≡ 2 → (plan_run texts options out lines kept).Fails tt fault → AreRefused texts fault
    refuses fault two p = of_refuses fault two (failure fault p)

    module _ (beginnings : IsOneBeginning) (some_opening : IsSomeOpening) (opening_apart : IsOpeningApart) (one_opening : IsOneOpening) where
      early_three : (fault : CliFault) → MayRun texts → (plan_judged texts).Fails tt fault → IsEarly fault → fault_status fault ≡ 3
      early_three fault may p (inl two) = absurd (never_refused beginnings some_opening opening_apart one_opening texts fault may (p, two))
      early_three fault may p (inr is) = ap fault_status is

      of_wanting : (fault : CliFault) → MayRun texts → Failure fault → fault_status fault ≡ 3
      of_wanting fault may (early p left) = early_three fault may p (plan_early texts fault p)
      of_wanting fault may (in_run setup judged p left) = run_three setup fault p
      of_wanting fault may (late setup ran judged run range p) = late_three ran fault p

      pub wanting_only : (fault : CliFault) → MayRun texts → (plan_run texts options out lines kept).Fails tt fault → fault_status fault ≡ 3
      wanting_only fault may p = of_wanting fault may (failure fault p)

      module _ (fault : CliFault) (are : AreRefused texts fault) where
        no_run : (setup : Setup) → (plan_judged texts).Gives tt setup → ⊥
        no_run setup judged = never_refused beginnings some_opening opening_apart one_opening texts fault (setup, judged) are

        answer_of : (other : CliFault) → (plan_judged texts).Fails tt other → IsEarly other → (err_of other ≡ err_of fault) ⊎ (err_of other ≡ err_of cli.NoMemory)
        answer_of other p (inl two) = inl (ap err_of (one_refusal beginnings some_opening opening_apart one_opening texts other fault (p, two) are))
        answer_of other p (inr is) = inr (ap err_of is)

        of_refused : (other : CliFault) → Failure other → IsUnwritten out lines kept × ((err_of other ≡ err_of fault) ⊎ (err_of other ≡ err_of cli.NoMemory))
        of_refused other (early p left) = (left, answer_of other p (plan_early texts other p))
        of_refused other (in_run setup judged p left) = absurd (no_run setup judged)
        of_refused other (late setup ran judged run range p) = absurd (no_run setup judged)

        pub refused_so : (result : Result Status CliFault) → IsResultOf (plan_run texts options out lines kept) tt result
            → IsUnwritten out lines kept × ((result ≡ Err fault) ⊎ (result ≡ Err cli.NoMemory))
        refused_so (Ok status) (setup, judged, rest) = absurd (no_run setup judged)
        refused_so (Err other) p = of_refused other (failure other p)

      -- ---- an outcome

      abbrev IsWrittenOrRefused : Result Status CliFault → Type 0
      IsWrittenOrRefused result = IsWritten texts options out lines kept result ⊎ ((fault : CliFault) × (result ≡ Err fault) × AreRefused texts fault)

      of_outcome : (result : Result Status CliFault) → IsDecisive result → IsResultOf (plan_run texts options out lines kept) tt result → IsWrittenOrRefused result
      of_outcome (Ok status) is p = inl (given_written status p)
      of_outcome (Err fault) (inl is) p =
          inl (subst (λ (f : CliFault). IsWritten texts options out lines kept (Err f)) (sym is)
          (stopped_written (subst (λ (f : CliFault). (plan_run texts options out lines kept).Fails tt f) is p)))
      of_outcome (Err fault) (inr is) p = inr (fault, refl, refuses fault is p)

      written_apart : (result : Result Status CliFault) (fault : CliFault) → IsWritten texts options out lines kept result → AreRefused texts fault → ⊥
      written_apart result fault is are = never_refused beginnings some_opening opening_apart one_opening texts fault (is.setup, is.judged) are

      once_either : (result other : Result Status CliFault) → IsSome lines.before → IsWrittenOrRefused result → IsWrittenOrRefused other → result ≡ other
      once_either result other tells (inl p) (inl q) = written_once result other tells p q
      once_either result other tells (inl p) (inr q) = absurd (written_apart result q.0 p q.2)
      once_either result other tells (inr p) (inl q) = absurd (written_apart other p.0 q p.2)
      once_either result other tells (inr p) (inr q) =
          p.1 ∙ ap (λ (f : CliFault). Err f) (one_refusal beginnings some_opening opening_apart one_opening texts p.0 q.0 p.2 q.2) ∙ sym q.1

      pub once : (result other : Result Status CliFault) → IsSome lines.before → IsDecisive result → IsDecisive other → IsResultOf (plan_run texts options out lines kept) tt result
          → IsResultOf (plan_run texts options out lines kept) tt other → result ≡ other
      once result other tells p q planned also = once_either result other tells (of_outcome result p planned) (of_outcome other q also)
