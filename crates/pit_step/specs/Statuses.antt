-- The statuses of the program.
use Rattle.std.specs.Prelude.{ℕ}
use Rattle.pit_step.specs.declared.fault.CliFault.{CliFault}
use Rattle.pit_step.specs.declared.fault.CliFault.TheVariants.{CannotRead, CannotWrite, HistoryInUse, NoMemory, NoPlace, NotClosed, Stopped}
use Rattle.pit_step.specs.declared.status.Status.{Status}
use Rattle.pit_step.specs.declared.status.Status.TheVariants.{Fine, Failed}

-- 3: memory runs out, a device fails, a thread or a place can't be had, or a file is in use; 2: an input, the start or the number of planners is
-- refused
abbrev pub fault_status : CliFault → ℕ
fault_status (CannotRead file) = 3
fault_status CannotWrite = 3
fault_status HistoryInUse = 3
fault_status NoMemory = 3
fault_status NoPlace = 3
fault_status NotClosed = 3
fault_status Stopped = 3
fault_status refused = 2

abbrev pub answer_status : Status → ℕ
answer_status Fine = 0
answer_status Failed = 1
