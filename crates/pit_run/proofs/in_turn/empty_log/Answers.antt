use Rattle.std.proofs.Common.{◌∙◌, ap}
use Rattle.pit_share.specs.Planners.{PlannerState}
use Rattle.pit_run.proofs.in_turn.empty_log.Goals as goal

pub returns-clause-number : goal.returns-clause-number
returns-clause-number g c = ap (λ (l : PlannerState). l.number) (c.finish.ensures ∙ c.sit.ensures)

pub returns-clause-none : goal.returns-clause-none
returns-clause-none g c = ap (λ (l : PlannerState). l.items) (c.finish.ensures ∙ c.sit.ensures)
