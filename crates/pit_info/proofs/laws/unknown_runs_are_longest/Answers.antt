use Rattle.pit_info.proofs.Longest.{longest}
use Rattle.pit_info.proofs.Joined.{runs-joined}
use Rattle.pit_info.proofs.laws.unknown_runs_are_longest.Goals as goal

pub returns-clause-longest : goal.returns-clause-longest
returns-clause-longest c = longest

pub returns-clause-all : goal.returns-clause-all
returns-clause-all c = runs-joined
