use Rattle.pit_script.proofs.Wanting.{no_script_fault_wants}
use Rattle.pit_script.proofs.laws.no_fault_wants_memory.Goals as goal

pub returns : goal.returns
returns c = no_script_fault_wants
