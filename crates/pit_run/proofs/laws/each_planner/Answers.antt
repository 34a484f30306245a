use Rattle.pit_run.proofs.Closing.{each-planner, moved-writes, full-is}
use Rattle.pit_run.proofs.laws.each_planner.Goals as goal

pub returns-clause-each : goal.returns-clause-each
returns-clause-each c = each-planner

pub returns-clause-full : goal.returns-clause-full
returns-clause-full c = full-is

pub returns-clause-moved : goal.returns-clause-moved
returns-clause-moved c = moved-writes
