use Rattle.pit_plan.proofs.OneBreach.{one_first}
use Rattle.pit_plan.proofs.SomeBreach.{some_first}
use Rattle.pit_plan.proofs.laws.one_breach.Goals as goal

pub returns-clause-some : goal.returns-clause-some
returns-clause-some c = some_first

pub returns-clause-same : goal.returns-clause-same
returns-clause-same c = one_first
