use Rattle.pit_run.proofs.OwnTurn.{own-turn}
use Rattle.pit_run.proofs.laws.own_turn.Goals as goal

pub returns : goal.returns
returns c = own-turn
