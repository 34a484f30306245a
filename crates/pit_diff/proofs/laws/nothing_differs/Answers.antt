use Rattle.pit_diff.proofs.Nothing.{none-same, same-none, fine-same, same-fine}
use Rattle.pit_diff.proofs.laws.nothing_differs.Goals as goal

pub returns-clause-text : goal.returns-clause-text
returns-clause-text c = λ pit old new. (none-same pit old new, same-none pit old new)

pub returns-clause-fine : goal.returns-clause-fine
returns-clause-fine c = λ pit old new. (fine-same pit old new, same-fine pit old new)
