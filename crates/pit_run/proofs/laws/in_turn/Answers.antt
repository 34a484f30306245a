use Rattle.pit_run.proofs.ByPlanner.{in-turn-rises}
use Rattle.pit_run.proofs.laws.in_turn.Goals as goal

pub returns : goal.returns
returns c = in-turn-rises
