use Rattle.pit_edit.proofs.Written.{written, others}
use Rattle.pit_edit.proofs.laws.edit_writes.Goals as goal

pub returns-clause-written : goal.returns-clause-written
returns-clause-written c = written

pub returns-clause-others : goal.returns-clause-others
returns-clause-others c = others
