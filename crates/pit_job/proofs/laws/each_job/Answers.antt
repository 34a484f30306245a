use Rattle.pit_job.proofs.Once.{each-job, own-effects, ends-after, ends-full}
use Rattle.pit_job.proofs.Writers.{outcome-writer}
use Rattle.pit_job.proofs.laws.each_job.Goals as goal

pub returns-clause-jobs : goal.returns-clause-jobs
returns-clause-jobs c = λ pit max_entries retries. each-job pit max_entries retries 1

pub returns-clause-effects : goal.returns-clause-effects
returns-clause-effects c = λ pit max_entries retries. own-effects pit max_entries retries 1

pub returns-clause-ends : goal.returns-clause-ends
returns-clause-ends c = λ pit max_entries retries. ends-after pit max_entries retries 1

pub returns-clause-moved : goal.returns-clause-moved
returns-clause-moved c = λ pit max_entries retries. outcome-writer pit max_entries retries 1

pub returns-clause-full : goal.returns-clause-full
returns-clause-full c = λ pit max_entries retries. ends-full pit max_entries retries 1
