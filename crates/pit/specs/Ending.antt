-- The statuses that the program's answers end with.
use Rattle.std.specs.Prelude.{◌≡◌, ◌≢◌, ◌⊎◌, ℕ, Result, Ok, Err}
use Rattle.clap.specs.Values.{kind_of}
use Rattle.clap.specs.declared.error.Error.{Error}
use Rattle.clap.specs.declared.error.kind.ErrorKind.TheVariants.{DisplayHelp, DisplayVersion}
use Rattle.pit_step.specs.declared.status.Status.{Status}
use Rattle.pit_step.specs.Statuses.{answer_status, fault_status}
use Rattle.pit.specs.declared.fault.Fault.{Fault}
use Rattle.pit.specs.declared.fault.Fault.TheVariants.{Engine, Command}

-- 2 for words that are refused; for help and the version 0, or 3 where they can't be written
pub record IsCommandStatus (error : Error) (status : ℕ) : Type 0 where
  pub refused : (kind_of error ≢ DisplayHelp) × (kind_of error ≢ DisplayVersion) → status ≡ 2
  pub shown : (kind_of error ≡ DisplayHelp) ⊎ (kind_of error ≡ DisplayVersion) → (status ≡ 0) ⊎ (status ≡ 3)

abbrev pub IsStatusOf : Result Status Fault → ℕ → Type 0
IsStatusOf (Ok found) status = status ≡ answer_status found
IsStatusOf (Err (Engine fault)) status = status ≡ fault_status fault
IsStatusOf (Err (Command error)) status = IsCommandStatus error status
