use Rattle.std.proofs.Common.{◌+◌, ◌-◌}
use Rattle.std.specs.List.{slice_range}
use Rattle.pit_model.proofs.CoefficientCells.{longer_same, longer_pushed}
use Rattle.pit_model.proofs.coefficients.make_room.Goals as goal

pub returns-clause-kept : goal.returns-clause-kept
returns-clause-kept g c =
    let row = c.args.row in
    let before = c.args.cells.now.items in
    let room = c.reserve.new.self.items in
    let once = c.extend_from_within.new.self.items in
    let twice = c.extend_from_within-2.new.self.items in
    let was = longer_same before room c.reserve.ensures.items in
    let more = longer_pushed before room once (slice_range room row.start (row.start + row.len)) was c.in_ok-extend_from_within.was c.extend_from_within.ensures.items in
    longer_pushed before once twice (slice_range once row.start (row.start + (c.min-room.result - row.len))) more c.in_ok-extend_from_within-2.was c.extend_from_within-2.ensures.items
