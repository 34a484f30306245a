use Rattle.pit_model.proofs.CoefficientCells.{no_rows, AreKept-none}
use Rattle.pit_model.proofs.coefficients.Coefficients.new.Goals as goal

pub invariant_of-result : goal.invariant_of-result
invariant_of-result g c = AreKept-none c.args.blocks c.new.result.items c.new-2.result.items c.new-2.ensures.items

pub returns : goal.returns
returns g c = no_rows c.new.result.items c.new-2.result.items c.args.blocks c.new-2.ensures.items
