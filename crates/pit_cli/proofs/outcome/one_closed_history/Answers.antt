use Rattle.pit_cli.proofs.Closed.{answered-one, stopped-one}
use Rattle.pit_cli.proofs.outcome.one_closed_history.Goals as goal

pub returns-clause-answered : goal.returns-clause-answered
returns-clause-answered c = answered-one

pub returns-clause-stopped : goal.returns-clause-stopped
returns-clause-stopped c = stopped-one
