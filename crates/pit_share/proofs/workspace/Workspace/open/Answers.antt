use Rattle.std.proofs.Common.{refl}
use Rattle.pit_share.proofs.workspace.Workspace.open.Goals as goal

pub returns-clause-count : goal.returns-clause-count
returns-clause-count g c = c.if-not-is_planner_count.ensures.0 refl
