use Rattle.pit_all.proofs.Outcome.{check_all_outcome}
use Rattle.pit_all.proofs.laws.one_outcome.Goals as goal

pub returns : goal.returns
returns c = check_all_outcome c.one_history.ensures.once c.one_result.ensures.either c.one_result.ensures.once
