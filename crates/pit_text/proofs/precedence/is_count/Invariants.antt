use Rattle.std.proofs.Common.{◌≡◌, nat_eq, length}
use Rattle.pit_text.specs.Left.{fields_left}
use Rattle.pit_text.proofs.precedence.is_count.Given as goal

abbrev pub invariant-loop-left : goal.invariant-loop-left
invariant-loop-left l = nat_eq l.count (length (fields_left l.fn.fields)) ≡ nat_eq l.left (length (fields_left l.fields))

abbrev pub decreases-loop-left : goal.decreases-loop-left
decreases-loop-left l = length (fields_left l.fields)
