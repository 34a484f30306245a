use Rattle.std.proofs.Common.{sym, ◌∙◌}
use Rattle.pit_model.proofs.CoefficientCells.{rows_sorted}
use Rattle.pit_model.proofs.coefficients.Coefficients.unsorted.Goals as goal

pub returns : goal.returns
returns g c =
    let cells = c.sorted.inside.cells.items in
    sym (rows_sorted cells cells c.sorted.inside.rows.items c.sorted.inside.blocks (λ b. sym (c.sorted.invariant.sorted b))) ∙ c.sorted.view_is
