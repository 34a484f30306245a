use Rattle.pit_script.proofs.Between.{jobs-between, jobs-written}
use Rattle.pit_script.proofs.laws.jobs_stand_between.Goals as goal

pub returns-clause-between : goal.returns-clause-between
returns-clause-between c = jobs-between

pub returns-clause-written : goal.returns-clause-written
returns-clause-written c = jobs-written
