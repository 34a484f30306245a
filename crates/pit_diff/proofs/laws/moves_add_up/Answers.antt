use Rattle.pit_diff.proofs.AddUp.{add-up}
use Rattle.pit_diff.proofs.laws.moves_add_up.Goals as goal

pub returns : goal.returns
returns c = add-up
