-- What is wrong with a line of a script, and the cause that is answered of it.
use Rattle.pit_script.specs.declared.error.ScriptCause.{ScriptCause}
use Rattle.pit_script.specs.declared.error.ScriptCause.TheVariants as cause
use Rattle.pit_script.specs.declared.error.ScriptFault.{ScriptFault}
use Rattle.pit_script.specs.declared.error.ScriptFault.TheVariants.{NotAscii, UnknownWord, FieldCount, BadNumber, BlockRange, ResourceRange, PeriodRange, Order, NoBench, JobCount, Unended}

-- the cause of a fault, which is never out of memory
abbrev pub script_cause_of : ScriptFault → ScriptCause
script_cause_of NotAscii = cause.NotAscii
script_cause_of UnknownWord = cause.UnknownWord
script_cause_of FieldCount = cause.FieldCount
script_cause_of (BadNumber error) = cause.BadNumber error
script_cause_of BlockRange = cause.BlockRange
script_cause_of ResourceRange = cause.ResourceRange
script_cause_of PeriodRange = cause.PeriodRange
script_cause_of Order = cause.Order
script_cause_of NoBench = cause.NoBench
script_cause_of JobCount = cause.JobCount
script_cause_of Unended = cause.Unended
