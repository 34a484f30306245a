use Rattle.pit_text.proofs.Wanting.{no_fault_wants}
use Rattle.pit_text.proofs.laws.no_fault_wants_memory.Goals as goal

pub returns : goal.returns
returns c = no_fault_wants
