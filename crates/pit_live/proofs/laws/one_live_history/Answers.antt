use Rattle.pit_live.proofs.OneLive.{answered, stopped}
use Rattle.pit_live.proofs.laws.one_live_history.Goals as goal

pub returns : goal.returns
returns c = record { answered = answered; stopped = stopped }
