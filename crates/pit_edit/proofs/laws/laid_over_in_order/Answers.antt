use Rattle.pit_edit.proofs.LaidOver.{laid-over}
use Rattle.pit_edit.proofs.laws.laid_over_in_order.Goals as goal

pub returns : goal.returns
returns c = laid-over
