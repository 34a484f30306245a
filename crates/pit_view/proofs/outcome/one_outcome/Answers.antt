use Rattle.pit_view.proofs.Runs.{value_outcome, check_outcome}
use Rattle.pit_view.proofs.OneReplay.{replay_outcome}
use Rattle.pit_view.proofs.outcome.one_outcome.Goals as goal

pub returns-clause-value : goal.returns-clause-value
returns-clause-value c = value_outcome

pub returns-clause-check : goal.returns-clause-check
returns-clause-check c = check_outcome

pub returns-clause-replay : goal.returns-clause-replay
returns-clause-replay c =
    replay_outcome c.one_history.ensures.once c.one_result.ensures.either c.one_result.ensures.once c.one_wrong_place.ensures.apart c.one_wrong_place.ensures.same
