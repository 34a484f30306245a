use Rattle.pit_model.proofs.Limits.{tightest-empty, tightest-line}
use Rattle.pit_model.proofs.bounds.bounds_are_tightest.Goals as goal

pub returns-clause-none : goal.returns-clause-none
returns-clause-none c = tightest-empty

pub returns-clause-line : goal.returns-clause-line
returns-clause-line c = tightest-line

pub returns-clause-profit : goal.returns-clause-profit
returns-clause-profit c pit lines b v was = record { each = was.each; lower = was.lower; upper = was.upper }

pub returns-clause-coef : goal.returns-clause-coef
returns-clause-coef c pit lines b r v was = record { each = was.each; lower = was.lower; upper = was.upper }

pub returns-clause-preds : goal.returns-clause-preds
returns-clause-preds c pit lines b listed was = record { each = was.each; lower = was.lower; upper = was.upper }

pub returns-clause-place : goal.returns-clause-place
returns-clause-place c pit lines b place was = record { each = was.each; lower = was.lower; upper = was.upper }
