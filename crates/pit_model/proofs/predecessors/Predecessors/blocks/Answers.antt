use Rattle.std.proofs.Common.{sym}
use Rattle.pit_model.specs.Inside.PredecessorRows.{cells_of}
use Rattle.pit_model.proofs.BlockSets.{length-member_values}
use Rattle.pit_model.proofs.predecessors.Predecessors.blocks.Goals as goal

pub returns : goal.returns
returns g c = rw (← c.self.view_is) (sym (length-member_values c.self.inside.blocks c.self.inside.set (cells_of c.self.inside.cells.items c.self.inside.rows.items)))
