use Rattle.std.proofs.Common.{◌∙◌}
use Rattle.pit_model.specs.Inside.PredecessorRows.{cells_of}
use Rattle.pit_model.proofs.BlockSets.{known-view}
use Rattle.pit_model.proofs.predecessors.Predecessors.is_set.Goals as goal

pub returns : goal.returns
returns g c = c.contains.ensures ∙ known-view c.self.inside.blocks c.self.inside.set (cells_of c.self.inside.cells.items c.self.inside.rows.items) c.args.self.now c.args.b c.self.view_is c.requires
