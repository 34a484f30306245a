use Rattle.std.proofs.Common.{◌≡◌, ◌∙◌, ℕ, List, get_or, sym, ap, ap₂, slice_range}
use Rattle.pit_model.specs.Inside.PredecessorRows.{no_cells}
use Rattle.pit_model.specs.declared.predecessors.Row.{Row}
use Rattle.pit_model.proofs.PredecessorCells.{preds_in-rows}
use Rattle.pit_model.proofs.predecessors.Predecessors.row.Goals as goal

pub returns : goal.returns
returns g c =
    let own : c.row_at-row.result ≡ get_or c.self.inside.rows.items c.args.b no_cells = c.row_at-row.ensures ∙ ap (λ (l : List Row). get_or l c.args.b no_cells) c.deref.ensures.value in
    ap₂ (λ (row : Row) (cells : List ℕ). slice_range cells row.start row.end) own c.deref-2.ensures.value
    ∙ sym (preds_in-rows c.self.inside.blocks c.self.inside.set c.self.inside.cells.items c.self.inside.rows.items c.args.self.now c.self.invariant c.self.view_is c.args.b)
