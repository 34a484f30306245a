use Rattle.std.proofs.Common.{refl}
use Rattle.pit_model.proofs.CoefficientCells.{pairs_put, pairs_put_beside}
use Rattle.pit_model.proofs.coefficients.put.Goals as goal

pub returns : goal.returns
returns c = record {
  row_is = refl;
  bits = c.with_bit.ensures;
  pairs = pairs_put c.args.cells.now c.args.row c.args.pair c.requires.room c.requires.row;
  others = λ other other_ok apart. pairs_put_beside c.args.cells.now c.args.row other c.args.pair c.requires.room other_ok apart;
}
