use Rattle.std.proofs.Common.{arith, ◌≡◌, pos, to_z, of_z, w64}
use Rattle.std.proofs.lemmas.Int.{ints}
use Rattle.std.proofs.lemmas.Grind.{common_steps}
use Rattle.pit_num.specs.Factor.{factor}
use Rattle.pit_num.proofs.Factors.{factor_le}
use Rattle.pit_num.proofs.discount.Discount.factor.Goals as goal

pub returns-clause-high : goal.returns-clause-high
returns-clause-high g c =
    let value : to_z w64 (of_z w64 c.index.result.now) ≡ pos (factor c.args.self.now.rate c.args.t) = grind (arith, common_steps) in
    omega (arith, ints, value, factor_le c.args.self.now.rate c.args.t)
