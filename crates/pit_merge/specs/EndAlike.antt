-- A run once more, on the same bytes.
use Rattle.std.specs.Prelude.{◌≡◌}
use Rattle.pit_step.specs.declared.fault.CliFault.{CliFault}
use Rattle.pit_step.specs.Statuses.{fault_status}
use Rattle.pit_step.specs.Steps.{Step}

-- Where both give a value it is one, and where both are refused, which is a fault of status 2, that is one. Where one gives a value the other isn't
-- refused; but memory may run out, or a device may fail.
pub record EndAlike {B : Type 0} (run again : Step CliFault (Unit {0}) B) : Type 0 where
  pub values : (value other : B) → run.Gives tt value → again.Gives tt other → value ≡ other
  pub apart : (value : B) (fault : CliFault) → run.Gives tt value → again.Fails tt fault → fault_status fault ≡ 3
  pub parted : (value : B) (fault : CliFault) → again.Gives tt value → run.Fails tt fault → fault_status fault ≡ 3
  pub faults : (fault other : CliFault) → fault_status fault ≡ 2 → fault_status other ≡ 2 → run.Fails tt fault → again.Fails tt other → fault ≡ other
