-- To be out of memory is no fault.
use Rattle.std.proofs.Common.{◌≢◌}
use Rattle.pit_script.specs.declared.error.ScriptCause.TheVariants.{NoMemory}
use Rattle.pit_script.specs.declared.error.ScriptFault.{ScriptFault}
use Rattle.pit_script.specs.declared.error.ScriptFault.TheVariants.{NotAscii, UnknownWord, FieldCount, BadNumber, BlockRange, ResourceRange, PeriodRange, Order, NoBench, JobCount, Unended}
use Rattle.pit_script.specs.Causes.{script_cause_of}

pub no_script_fault_wants : (fault : ScriptFault) → script_cause_of fault ≢ NoMemory
no_script_fault_wants NotAscii is = cc
no_script_fault_wants UnknownWord is = cc
no_script_fault_wants FieldCount is = cc
no_script_fault_wants (BadNumber error) is = cc
no_script_fault_wants BlockRange is = cc
no_script_fault_wants ResourceRange is = cc
no_script_fault_wants PeriodRange is = cc
no_script_fault_wants Order is = cc
no_script_fault_wants NoBench is = cc
no_script_fault_wants JobCount is = cc
no_script_fault_wants Unended is = cc
