-- What is written of a run.
use Rattle.std.proofs.Common.{inl, inr, Option, Result, Ok, Err, refl}
use Rattle.pit_step.specs.Devices.{Writing}
use Rattle.pit_step.specs.declared.status.Status.{Status}
use Rattle.pit_step.specs.declared.fault.CliFault.{CliFault}
use Rattle.pit_step.specs.declared.fault.CliFault.TheVariants.{NoMemory}
use Rattle.pit_step.specs.Steps.{in_turn, IsResultOf}
use Rattle.pit_opening.specs.Beginnings.{is_carried_on, is_unbegun}
use Rattle.pit_cli.specs.declared.plan_options.PlanOptions.{PlanOptions}
use Rattle.pit_cli.specs.Texts.{Texts}
use Rattle.pit_cli.specs.Planning.{Ran, plan_judged, planners_step}
use Rattle.pit_output.specs.Outputs.{Keeping, outputs_run, IsUnwritten}
use Rattle.pit_cli.specs.Output.{outputs_of, ran_end, IsKeptInRange, plan_run}

-- behind a run, where memory doesn't run out
pub ran_as : (texts : Texts) (options : PlanOptions) (out lines : Writing) (kept : Option Keeping) (ran : Ran) (result : Result Status CliFault) → (in_turn (plan_judged texts) (planners_step options)).Gives tt ran
    → IsKeptInRange kept ran.0.history
    → IsResultOf (outputs_run (is_carried_on texts.beginning) (outputs_of (is_unbegun texts.beginning) ran) (ran_end options.is_strict ran) out lines kept) tt result → IsResultOf (plan_run texts options out lines kept) tt result
ran_as texts options out lines kept ran (Ok status) (setup, judged, run) range p = (setup, judged, (ran, run, (ran, (refl, range), (tt, (refl, tt), p))))
ran_as texts options out lines kept ran (Err fault) (setup, judged, run) range p = inr (setup, judged, inr (ran, run, inr (ran, (refl, range), inr (tt, (refl, tt), p))))

-- where it is
pub ran_wants : (texts : Texts) (options : PlanOptions) (out lines : Writing) (kept : Option Keeping) (ran : Ran) → (in_turn (plan_judged texts) (planners_step options)).Gives tt ran
    → IsKeptInRange kept ran.0.history
    → (outputs_run (is_carried_on texts.beginning) (outputs_of (is_unbegun texts.beginning) ran) (ran_end options.is_strict ran) out lines kept).IsUntouched → (plan_run texts options out lines kept).Fails tt NoMemory
ran_wants texts options out lines kept ran (setup, judged, run) range left = inr (setup, judged, inr (ran, run, inr (ran, (refl, range), inl (refl, left))))

-- where there is no run
pub never_ran : (texts : Texts) (options : PlanOptions) (out lines : Writing) (kept : Option Keeping) (fault : CliFault) → (in_turn (plan_judged texts) (planners_step options)).Fails tt fault
    → IsUnwritten out lines kept → (plan_run texts options out lines kept).Fails tt fault
never_ran texts options out lines kept fault (inl p) left = inl (p.0, (tt, (tt, left)))
never_ran texts options out lines kept fault (inr (setup, judged, p)) left = inr (setup, judged, inl (p, (tt, left)))
