use Rattle.pit_job.proofs.Carrying.{carry-whole, are-members, members-reached, reached-members, carry-places, carry-keeps}
use Rattle.pit_job.proofs.laws.carried_along.Goals as goal

pub returns-clause-puts : goal.returns-clause-puts
returns-clause-puts c = carry-whole

pub returns-clause-least : goal.returns-clause-least
returns-clause-least c = are-members

pub returns-clause-reached : goal.returns-clause-reached
returns-clause-reached c = members-reached

pub returns-clause-in_order : goal.returns-clause-in_order
returns-clause-in_order c = reached-members

pub returns-clause-placed : goal.returns-clause-placed
returns-clause-placed c = carry-places

pub returns-clause-order : goal.returns-clause-order
returns-clause-order c = carry-keeps
