use Rattle.pit_run.proofs.Closing.{of-one-thread, one-by-one}
use Rattle.pit_run.proofs.laws.one_after_another.Goals as goal

pub returns-clause-one_thread : goal.returns-clause-one_thread
returns-clause-one_thread c = of-one-thread

pub returns-clause-one_by_one : goal.returns-clause-one_by_one
returns-clause-one_by_one c = one-by-one
