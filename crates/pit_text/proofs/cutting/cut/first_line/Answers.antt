use Rattle.std.proofs.Common.{rules}
use Rattle.pit_text.proofs.Cuts.{lines_empty}
use Rattle.pit_text.proofs.cutting.cut.first_line.Goals as goal

pub returns-then-is_empty-clause-cases : goal.returns-then-is_empty-clause-cases
returns-then-is_empty-clause-cases c = lines_empty c.args.text.now (search rules)
