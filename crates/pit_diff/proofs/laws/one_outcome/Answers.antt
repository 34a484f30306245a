use Rattle.pit_diff.proofs.Outcome.{seen-outcome, written-outcome}
use Rattle.pit_diff.proofs.laws.one_outcome.Goals as goal

pub returns-clause-seen : goal.returns-clause-seen
returns-clause-seen c = λ model old new out told_model told_old told_new.
    seen-outcome c.one_history.ensures.once c.one_result.ensures.either c.one_result.ensures.once model old new out told_model told_old told_new

pub returns-clause-written : goal.returns-clause-written
returns-clause-written c = λ model old new out told_model told_old told_new changed.
    written-outcome c.one_history.ensures.once c.one_result.ensures.either c.one_result.ensures.once model old new out told_model told_old told_new changed
