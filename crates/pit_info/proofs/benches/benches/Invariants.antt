use Rattle.std.proofs.Common.{◌≡◌, ℤ}
use Rattle.std.specs.Ordering.{int_eq}
use Rattle.std.specs.Set.{is_member}
use Rattle.pit_info.specs.Figures.{heights_in}
use Rattle.pit_info.proofs.benches.benches.Given as goal

abbrev pub invariant-loop-b : goal.invariant-loop-b
invariant-loop-b g l = (q : ℤ) → is_member int_eq l.heights.keys q ≡ is_member int_eq (heights_in l.pit l.b) q
