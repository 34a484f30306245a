use Rattle.std.proofs.Common.{◌+◌, ◌/◌, ◌≤◌, length, arith, rules}
use Rattle.pit_model.specs.BlockSet.{blocks_in}
use Rattle.pit_model.proofs.BlockSets.{length-blocks_in, blocks_in-same}
use Rattle.pit_model.proofs.Rows.{get_or-filled_up}
use Rattle.pit_model.proofs.block_set.BlockSet.reserve.Goals as goal

pub returns-clause-room : goal.returns-clause-room
returns-clause-room g c =
    let words = c.resize.new.self.items in
    let long : c.args.blocks / 64 + 1 ≤ length words = search rules in
    let room : c.args.blocks ≤ length (blocks_in words) = omega (arith, length-blocks_in words) in
    room

pub returns-clause-same : goal.returns-clause-same
returns-clause-same g c b =
    let few : length c.self.inside.words.items ≤ c.max-words.result = search rules in
    rw (← c.self.view_is)
    (blocks_in-same c.self.inside.words.items c.resize.new.self.items
    (get_or-filled_up c.max-words.result c.self.inside.words.len c.self.inside.words.items c.resize.new.self.items 0 few c.in_ok-resize.ensures.items) b)
