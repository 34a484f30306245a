use Rattle.std.proofs.Common.{List, ℕ, sym, subst}
use Rattle.pit_text.specs.Inside.Plain.{ArePair}
use Rattle.pit_text.proofs.cutting.lines.Lines.plain_pair.Goals as goal

pub returns-clause-numbers : goal.returns-clause-numbers
returns-clause-numbers c =
    let read = c.in_ok-first.ensures in
    subst (λ (fs : List (List ℕ)). ArePair fs c.in_ok-first.first c.in_ok-first.second) (sym (c.take_line-line.ensures.fields read.0 read.1)) read.2
