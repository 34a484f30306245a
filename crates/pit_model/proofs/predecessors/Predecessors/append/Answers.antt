use Rattle.std.proofs.Common.{◌<◌, arith, rules}
use Rattle.pit_model.specs.Inside.PredecessorRows.{no_cells, cells_of}
use Rattle.pit_model.proofs.BlockSets.{below-known}
use Rattle.pit_model.proofs.PredecessorCells.{OnErr-always, rows_in-same, rows_in-row, ArePredecessorRows-row}
use Rattle.pit_model.proofs.Rows.{get_or-filled_up}
use Rattle.pit_model.proofs.predecessors.Predecessors.append.Goals as goal

pub returns-in_err-extend_from_slice-clause-err : goal.returns-in_err-extend_from_slice-clause-err
returns-in_err-extend_from_slice-clause-err g c =
    let filled = get_or-filled_up c.self.inside.blocks c.self.inside.rows.len c.self.inside.rows.items c.resize.new.self.items no_cells c.self.invariant.few (rw c.no_row.ensures at c.in_ok-resize.ensures.items) in
    let same = rows_in-same c.self.inside.blocks c.self.inside.set c.reserve.new.self c.self.inside.cells.items c.extend_from_slice.new.self.items c.self.inside.rows.items c.resize.new.self.items
    c.reserve.ensures.same c.in_err-extend_from_slice.ensures.items filled in
    OnErr-always c.from_residual-in_err-extend_from_slice.result (rw (← c.self.view_is) same)

pub index_mut-requires : goal.index_mut-requires
index_mut-requires g c =
    let below : c.args.b < c.self.inside.blocks = below-known c.self.inside.blocks c.self.inside.set (cells_of c.self.inside.cells.items c.self.inside.rows.items) c.args.self.now c.args.b c.self.view_is c.requires in
    omega (arith, c.in_ok-resize.ensures.len)

pub insert-requires : goal.insert-requires
insert-requires g c =
    let below : c.args.b < c.self.inside.blocks = below-known c.self.inside.blocks c.self.inside.set (cells_of c.self.inside.cells.items c.self.inside.rows.items) c.args.self.now c.args.b c.self.view_is c.requires in
    omega (arith, c.in_ok-reserve.ensures.room)

pub invariant_of-self-2 : goal.invariant_of-self-2
invariant_of-self-2 g c =
    ArePredecessorRows-row c.self.inside.blocks c.args.b c.self.inside.rows.len c.self.inside.set c.reserve.new.self c.insert.new.self
    c.self.inside.cells.items c.extend_from_slice.new.self.items c.args.row.now c.self.inside.rows.items c.resize.new.self.items (record { start = c.len-start.result; end = c.len-end.result }) c.args.self.now
    c.self.invariant c.self.view_is c.requires c.reserve.ensures.same c.in_ok-reserve.ensures.room c.insert.ensures
    (search rules) (rw c.no_row.ensures at c.in_ok-resize.ensures.items) (search rules) (search rules) (search rules)

pub returns-clause-ok : goal.returns-clause-ok
returns-clause-ok g c =
    rows_in-row c.self.inside.blocks c.args.b c.self.inside.rows.len c.self.inside.set c.reserve.new.self c.insert.new.self
    c.self.inside.cells.items c.extend_from_slice.new.self.items c.args.row.now c.self.inside.rows.items c.resize.new.self.items (record { start = c.len-start.result; end = c.len-end.result }) c.args.self.now
    c.self.invariant c.self.view_is c.requires c.reserve.ensures.same c.in_ok-reserve.ensures.room c.insert.ensures
    (search rules) (rw c.no_row.ensures at c.in_ok-resize.ensures.items) (search rules) (search rules) (search rules)
