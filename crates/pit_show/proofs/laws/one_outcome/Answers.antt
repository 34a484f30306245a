use Rattle.pit_show.proofs.Outcome.{seen-outcome, written-outcome}
use Rattle.pit_show.proofs.laws.one_outcome.Goals as goal

pub returns-clause-seen : goal.returns-clause-seen
returns-clause-seen c = λ at model schedule out told_model told_schedule.
    seen-outcome c.one_history.ensures.once c.one_result.ensures.either c.one_result.ensures.once at model schedule out told_model told_schedule

pub returns-clause-written : goal.returns-clause-written
returns-clause-written c = λ at model schedule out told_model told_schedule grown.
    written-outcome c.one_history.ensures.once c.one_result.ensures.either c.one_result.ensures.once at model schedule out told_model told_schedule grown
