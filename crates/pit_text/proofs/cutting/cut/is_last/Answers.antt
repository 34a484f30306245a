use Rattle.std.proofs.Common.{rules, sym}
use Rattle.std.proofs.lemmas.Bool.{ne_eqb}
use Rattle.pit_text.proofs.Cuts.{not_last}
use Rattle.pit_text.proofs.cutting.cut.is_last.Goals as goal

pub returns-in_default : goal.returns-in_default
returns-in_default c = sym (not_last c.args.line.now c.in-Some.start (search rules) (ne_eqb _ _ c.if-line-start-eq69.false))
