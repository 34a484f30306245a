use Rattle.pit_plan.proofs.Commits.{held_period-nil, held_period-push, last_number-nil, last_number-push, limit_of-nil, limit_of-push}
use Rattle.pit_plan.proofs.laws.commits_follow.Goals as goal

pub returns-clause-held_none : goal.returns-clause-held_none
returns-clause-held_none c = held_period-nil

pub returns-clause-held_more : goal.returns-clause-held_more
returns-clause-held_more c = held_period-push

pub returns-clause-last_none : goal.returns-clause-last_none
returns-clause-last_none c = last_number-nil

pub returns-clause-last_more : goal.returns-clause-last_more
returns-clause-last_more c = last_number-push

pub returns-clause-limit_none : goal.returns-clause-limit_none
returns-clause-limit_none c = limit_of-nil

pub returns-clause-limit_more : goal.returns-clause-limit_more
returns-clause-limit_more c = limit_of-push
