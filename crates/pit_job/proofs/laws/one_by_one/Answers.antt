use Rattle.pit_job.proofs.Agreeing.{committed-effect}
use Rattle.pit_job.proofs.laws.one_by_one.Goals as goal

pub returns : goal.returns
returns c = committed-effect
