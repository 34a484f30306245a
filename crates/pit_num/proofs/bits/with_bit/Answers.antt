use Rattle.std.proofs.Common.{w64, arith}
use Rattle.std.proofs.lemmas.Nat.Bits.{bit_at_set_same, bit_at_set_other}
use Rattle.pit_num.proofs.bits.with_bit.Goals as goal

pub returns : goal.returns
returns c = record {
  here = bit_at_set_same w64 c.args.bits c.args.r (omega arith);
  others = bit_at_set_other w64 c.args.bits c.args.r (omega arith);
}
