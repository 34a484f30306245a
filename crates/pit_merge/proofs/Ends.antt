-- Runs that are alike end alike.
use Rattle.std.proofs.Common.{◌≡◌, ◌⊎◌, inl, inr, refl}
use Rattle.pit_step.specs.declared.fault.CliFault.{CliFault}
use Rattle.pit_step.specs.declared.fault.CliFault.TheVariants.{CannotRead, CannotWrite, HistoryInUse, NoMemory, NoPlace, NotClosed, Stopped}
use Rattle.pit_step.specs.Statuses.{fault_status}
use Rattle.pit_step.specs.Steps.{Step}
use Rattle.pit_step.proofs.CallerLemmas.{IsOfInputs}
use Rattle.pit_merge.specs.EndAlike.{EndAlike}
use Rattle.pit_merge.proofs.Alike.{AreAlike}

two-or-three : (fault : CliFault) → IsOfInputs fault ⊎ (fault_status fault ≡ 3)
two-or-three (CannotRead file) = inr refl
two-or-three CannotWrite = inr refl
two-or-three HistoryInUse = inr refl
two-or-three NoMemory = inr refl
two-or-three NoPlace = inr refl
two-or-three NotClosed = inr refl
two-or-three Stopped = inr refl
two-or-three other = inl refl

else-three : (fault : CliFault) → (IsOfInputs fault → ⊥) → fault_status fault ≡ 3
else-three fault never = elim (two-or-three fault) [ inl due ↦ absurd (never due) | inr is ↦ is ]

pub alike-ends : {B : Type 0} (run again : Step CliFault (Unit {0}) B) → AreAlike {K = Unit {0}} {L = B} IsOfInputs (λ given. given) (λ value. value) run again → EndAlike run again
alike-ends run again alike = record {
  values = λ value other p q. alike.values tt tt value other refl p q;
  apart = λ value fault p q. else-three fault (λ due. alike.apart tt tt value fault due refl p q);
  parted = λ value fault p q. else-three fault (λ due. alike.parted tt tt value fault due refl p q);
  faults = λ fault other due also p q. alike.faults tt tt fault other due also refl p q;
}
