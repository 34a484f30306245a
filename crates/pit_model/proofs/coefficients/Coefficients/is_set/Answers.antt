use Rattle.std.proofs.Common.{◌∙◌, rules}
use Rattle.pit_model.proofs.CoefficientCells.{is_set-view}
use Rattle.pit_model.proofs.coefficients.Coefficients.is_set.Goals as goal

pub returns : goal.returns
returns g c =
    c.has_bit.ensures
    ∙ is_set-view c.self.inside.blocks c.self.inside.cells.items c.self.inside.rows.items c.args.b c.args.r c.args.self.now c.row_at.result c.self.invariant c.self.view_is c.requires.block c.requires.resource (search rules)
