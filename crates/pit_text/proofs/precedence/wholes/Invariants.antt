use Rattle.std.proofs.Common.{◌≡◌, ◌++◌, Ok, length}
use Rattle.pit_text.specs.Left.{fields_left}
use Rattle.pit_text.specs.Stands.{◌>>=◌}
use Rattle.pit_text.specs.Precedence.{wholes_of}
use Rattle.pit_text.proofs.precedence.wholes.Given as goal

abbrev pub invariant-loop-field : goal.invariant-loop-field
invariant-loop-field g l = wholes_of (fields_left l.fn.fields) ≡ (wholes_of (fields_left l.fields) >>= (λ more. Ok (l.listed.items ++ more)))

abbrev pub decreases-loop-field : goal.decreases-loop-field
decreases-loop-field g l = length (fields_left l.fields)
