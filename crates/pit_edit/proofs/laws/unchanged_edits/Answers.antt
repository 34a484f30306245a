use Rattle.pit_edit.proofs.Reported.{unchanged}
use Rattle.pit_edit.proofs.laws.unchanged_edits.Goals as goal

pub returns : goal.returns
returns c = unchanged
