use Rattle.pit_plan.specs.Schedule.{held_period, limit_of}
use Rattle.pit_all.proofs.FirstBreach.{first-breach}
use Rattle.pit_all.proofs.Found.{fine-good, good-fine}
use Rattle.pit_all.proofs.laws.all_breaches.Goals as goal

pub returns-clause-first : goal.returns-clause-first
returns-clause-first c = λ pit commits sound. first-breach pit (held_period commits) (limit_of pit commits) sound

pub returns-clause-fine : goal.returns-clause-fine
returns-clause-fine c = λ pit commits sound. (fine-good pit commits sound, good-fine pit commits sound)
