use Rattle.pit_file.proofs.Outputs.{kept-shown}
use Rattle.pit_file.proofs.laws.kept_or_not.Goals as goal

pub returns-clause-shown : goal.returns-clause-shown
returns-clause-shown c = kept-shown
