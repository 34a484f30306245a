use Rattle.std.proofs.Common.{◌≡◌, take}
use Rattle.std.specs.List.{count_by}
use Rattle.pit_info.specs.Figures.{isnt_zero}
use Rattle.pit_info.proofs.blocks.coefficients_among.Given as goal

abbrev pub invariant-loop-amount : goal.invariant-loop-amount
invariant-loop-amount l = l.count ≡ count_by (λ pair. isnt_zero pair.1) (take l.amount-index l.coefs)
