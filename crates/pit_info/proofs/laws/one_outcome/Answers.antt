use Rattle.pit_info.proofs.Outcome.{info_outcome}
use Rattle.pit_info.proofs.laws.one_outcome.Goals as goal

pub returns : goal.returns
returns c = λ model precedence blocks out told_model told_precedence told. info_outcome model precedence blocks out told_model told_precedence told.0 told.1
