use Rattle.std.proofs.Common.{◌≡◌, ◌||◌, nat_le, Ok, length}
use Rattle.std.specs.List.{list_any}
use Rattle.pit_text.specs.Left.{fields_left}
use Rattle.pit_text.specs.Stands.{◌>>=◌}
use Rattle.pit_text.specs.Precedence.{wholes_of}
use Rattle.pit_text.proofs.precedence.has_from.Given as goal

abbrev pub invariant-loop-field : goal.invariant-loop-field
invariant-loop-field l =
    (wholes_of (fields_left l.fn.fields) >>= (λ listed. Ok (list_any (λ a. nat_le l.least a) listed)))
    ≡ (wholes_of (fields_left l.fields) >>= (λ more. Ok (l.found || list_any (λ a. nat_le l.least a) more)))

abbrev pub decreases-loop-field : goal.decreases-loop-field
decreases-loop-field l = length (fields_left l.fields)
