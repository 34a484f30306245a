use Rattle.std.proofs.Common.{◌<◌, arith}
use Rattle.pit_model.specs.Inside.PredecessorRows.{cells_of}
use Rattle.pit_model.proofs.BlockSets.{below-known}
use Rattle.pit_model.proofs.PredecessorCells.{rows_in-empty}
use Rattle.pit_model.proofs.predecessors.Predecessors.set_empty.Goals as goal

pub insert-requires : goal.insert-requires
insert-requires g c =
    let below : c.args.b < c.self.inside.blocks = below-known c.self.inside.blocks c.self.inside.set (cells_of c.self.inside.cells.items c.self.inside.rows.items) c.args.self.now c.args.b c.self.view_is c.requires.block in
    omega (arith, c.in_ok-reserve.ensures.room)

pub returns-clause-ok : goal.returns-clause-ok
returns-clause-ok g c =
    rows_in-empty c.self.inside.blocks c.args.b c.self.inside.set c.reserve.new.self c.insert.new.self c.self.inside.cells.items c.self.inside.rows.items c.args.self.now
    c.self.invariant c.self.view_is c.requires.block c.requires.unset c.reserve.ensures.same c.in_ok-reserve.ensures.room c.insert.ensures
