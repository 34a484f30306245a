use Rattle.std.proofs.Common.{rules, length, ◌≡◌}
use Rattle.pit_model.proofs.PredecessorCells.{preds_in-none}
use Rattle.pit_model.proofs.predecessors.Predecessors.has_none.Goals as goal

pub returns : goal.returns
returns g c said b =
    let none : length c.self.inside.cells.items ≡ 0 = search rules in
    preds_in-none c.self.inside.blocks c.self.inside.set c.self.inside.cells.items c.self.inside.rows.items c.args.self.now c.self.invariant c.self.view_is none b
