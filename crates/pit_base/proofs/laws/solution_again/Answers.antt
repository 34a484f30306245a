use Rattle.pit_base.proofs.Again.{again-kind, again-stands, again-left}
use Rattle.pit_base.proofs.laws.solution_again.Goals as goal

pub returns-clause-kind : goal.returns-clause-kind
returns-clause-kind c = λ pit comment period sound leads. again-kind pit sound comment period leads

pub returns-clause-stands : goal.returns-clause-stands
returns-clause-stands c = λ pit comment period sound leads in_range. again-stands pit sound comment period leads in_range

pub returns-clause-left : goal.returns-clause-left
returns-clause-left c = λ blocks b period below. again-left blocks period b below
