-- What is wrong with a line, and the cause that is answered of it.
use Rattle.std.specs.Prelude.{Result, Ok, Err, Option, Some, None}
use Rattle.pit_model.specs.declared.error.BuildError.{BuildError}
use Rattle.pit_text.specs.declared.error.Cause.{Cause}
use Rattle.pit_text.specs.declared.error.Cause.TheVariants as cause
use Rattle.pit_text.specs.declared.error.Fault.{Fault}
use Rattle.pit_text.specs.declared.error.Fault.TheVariants.{NotAscii, MissingHeader, BadHeader, NotCpit, Unsupported, SectionTwice, FieldCount, BadNumber, Build, CountWrong, PartBlock, BadKind}

-- the cause of a fault, which is never out of memory
abbrev pub cause_of : Fault → Cause
cause_of NotAscii = cause.NotAscii
cause_of (MissingHeader key) = cause.MissingHeader key
cause_of (BadHeader key) = cause.BadHeader key
cause_of NotCpit = cause.NotCpit
cause_of (Unsupported key) = cause.Unsupported key
cause_of SectionTwice = cause.SectionTwice
cause_of FieldCount = cause.FieldCount
cause_of (BadNumber error) = cause.BadNumber error
cause_of (Build refusal) = cause.Build refusal
cause_of CountWrong = cause.CountWrong
cause_of PartBlock = cause.PartBlock
cause_of BadKind = cause.BadKind

-- the fact of a line stands, unless the pit refuses it
abbrev pub fact_unless : {F : Type 0} → Option BuildError → F → Result F Fault
fact_unless None fact = Ok fact
fact_unless (Some refusal) fact = Err (Build refusal)
