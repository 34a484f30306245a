-- What is written, as steps have it.
use Rattle.std.proofs.Common.{◌≡◌, inl, inr, ℕ, Bool, true, false, List, Option, Result, Ok, Err, refl}
use Rattle.std.specs.Result.{is_err}
use Rattle.std.proofs.lemmas.Bool.{false≢true}
use Rattle.pit_num.specs.Printed.{WritesIfAny}
use Rattle.pit_step.specs.Devices.{Writing, writing_of, write_step}
use Rattle.pit_step.specs.declared.status.Status.{Status}
use Rattle.pit_step.specs.declared.fault.CliFault.{CliFault}
use Rattle.pit_step.specs.Steps.{IsResultOf}
use Rattle.pit_output.specs.Outputs.{Keeping, keep_step, Outputs, streams_step, outputs_run}

-- what was given to a device, where that is no fault
pub wrote : {D E : Type 0} (contents : D → Option (List ℕ)) (has_failed : D → Bool) (old new : D) (text : List ℕ) (result : Result (Unit {0}) E)
    → WritesIfAny contents has_failed old new text result → false ≡ is_err result
    → (write_step {A = Unit {0}} (writing_of (contents old) (contents new) (has_failed new)) (λ _. text) (λ _. tt {0})).Gives tt tt
wrote contents has_failed old new text (Ok x) writes is = (refl, writes.ok, writes.sound)
wrote contents has_failed old new text (Err e) writes is = absurd (false≢true is)

-- both texts are written
pub both_written : (texts : Outputs) (out lines : Writing) → (write_step {A = Unit {0}} out (λ _. texts.solution) (λ _. tt {0})).Gives tt tt
    → (write_step {A = Unit {0}} lines (λ _. texts.report) (λ _. tt {0})).Gives tt tt → (streams_step texts out lines).Gives tt tt
both_written texts out lines p q = (tt, p, q)

-- all is written, and it ends so
pub all_written : (is_first : Bool) (texts : Outputs) (ended : Result Status CliFault) (out lines : Writing) (kept : Option Keeping)
    → (streams_step texts out lines).Gives tt tt → (keep_step kept texts.history).Gives tt tt → IsResultOf (outputs_run is_first texts ended out lines kept) tt ended
all_written false texts (Ok status) out lines kept p q = (tt, p, (tt, q, refl))
all_written false texts (Err fault) out lines kept p q = inr (tt, p, inr (tt, q, refl))
all_written true texts (Ok status) out lines kept p q = (tt, q, (tt, p, refl))
all_written true texts (Err fault) out lines kept p q = inr (tt, q, inr (tt, p, refl))

-- the last device fails
pub last_kept : (texts : Outputs) (ended : Result Status CliFault) (out lines : Writing) (kept : Option Keeping) (fault : CliFault)
    → (streams_step texts out lines).Gives tt tt → (keep_step kept texts.history).Fails tt fault → (outputs_run false texts ended out lines kept).Fails tt fault
last_kept texts ended out lines kept fault p q = inr (tt, p, inl (q, tt))

pub both_last : (texts : Outputs) (ended : Result Status CliFault) (out lines : Writing) (kept : Option Keeping) (fault : CliFault)
    → (keep_step kept texts.history).Gives tt tt → (streams_step texts out lines).Fails tt fault → (outputs_run true texts ended out lines kept).Fails tt fault
both_last texts ended out lines kept fault p q = inr (tt, p, inl (q, tt))

-- the first fails
pub both_first : (texts : Outputs) (ended : Result Status CliFault) (out lines : Writing) (kept : Option Keeping) (fault : CliFault)
    → (streams_step texts out lines).Fails tt fault → (keep_step kept texts.history).IsUntouched → (outputs_run false texts ended out lines kept).Fails tt fault
both_first texts ended out lines kept fault p left = inl (p, (left, tt))

pub first_kept : (texts : Outputs) (ended : Result Status CliFault) (out lines : Writing) (kept : Option Keeping) (fault : CliFault)
    → (keep_step kept texts.history).Fails tt fault → (streams_step texts out lines).IsUntouched → (outputs_run true texts ended out lines kept).Fails tt fault
first_kept texts ended out lines kept fault p left = inl (p, (left, tt))
