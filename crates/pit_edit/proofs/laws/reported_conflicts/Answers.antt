use Rattle.pit_edit.proofs.Reported.{reported, none-left}
use Rattle.pit_edit.proofs.laws.reported_conflicts.Goals as goal

pub returns-clause-reported : goal.returns-clause-reported
returns-clause-reported c = reported

pub returns-clause-none_left : goal.returns-clause-none_left
returns-clause-none_left c = none-left
