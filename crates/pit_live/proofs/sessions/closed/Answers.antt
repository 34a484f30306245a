use Rattle.pit_live.proofs.Finishing.{never_all}
use Rattle.pit_live.proofs.sessions.closed.Goals as goal

pub returns-in_default-clause-all : goal.returns-in_default-clause-all
returns-in_default-clause-all g c = never_all c.args.known c.closed_alone.result c.closed_alone.ensures.all
