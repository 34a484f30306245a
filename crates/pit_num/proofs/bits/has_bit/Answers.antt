use Rattle.std.proofs.Common.{ap, ◌==◌, ℕ}
use Rattle.std.proofs.lemmas.Nat.Bits.{shr_and_one}
use Rattle.pit_num.proofs.bits.has_bit.Goals as goal

pub returns : goal.returns
returns c = ap (λ (n : ℕ). n == 1) (shr_and_one c.args.bits c.args.r)
