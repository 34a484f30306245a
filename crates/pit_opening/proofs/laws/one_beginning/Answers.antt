use Rattle.pit_opening.proofs.OneBeginning.{beginning_decided}
use Rattle.pit_opening.proofs.laws.one_beginning.Goals as goal

pub returns-clause-some : goal.returns-clause-some
returns-clause-some c = λ pit begun. (beginning_decided c.one_result.ensures.some c.one_history.ensures.once c.one_result.ensures.either c.one_result.ensures.once pit begun).some

pub returns-clause-same : goal.returns-clause-same
returns-clause-same c =
    λ pit begun. (beginning_decided c.one_result.ensures.some c.one_history.ensures.once c.one_result.ensures.either c.one_result.ensures.once pit begun).once.values

pub returns-clause-apart : goal.returns-clause-apart
returns-clause-apart c =
    λ pit begun. (beginning_decided c.one_result.ensures.some c.one_history.ensures.once c.one_result.ensures.either c.one_result.ensures.once pit begun).once.apart

pub returns-clause-faults : goal.returns-clause-faults
returns-clause-faults c =
    λ pit begun. (beginning_decided c.one_result.ensures.some c.one_history.ensures.once c.one_result.ensures.either c.one_result.ensures.once pit begun).once.faults
