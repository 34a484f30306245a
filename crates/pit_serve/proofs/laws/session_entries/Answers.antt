use Rattle.pit_serve.proofs.Entering.{session_entered}
use Rattle.pit_serve.proofs.laws.session_entries.Goals as goal

pub returns : goal.returns
returns c = session_entered
