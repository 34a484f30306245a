use Rattle.pit_text.proofs.Limited.{model-tightest}
use Rattle.pit_text.proofs.laws.limits_are_tightest.Goals as goal

pub returns : goal.returns
returns c = model-tightest
