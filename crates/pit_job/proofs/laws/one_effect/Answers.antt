use Rattle.pit_job.proofs.Agreeing.{effect-agrees}
use Rattle.pit_job.proofs.laws.one_effect.Goals as goal

pub returns : goal.returns
returns c = effect-agrees
