use Rattle.std.proofs.Common.{List, Bool, ap, get_or, false}
use Rattle.pit_model.specs.Inside.PredecessorRows.{cells_of}
use Rattle.pit_model.proofs.BlockSets.{member_values-none}
use Rattle.pit_model.proofs.PredecessorCells.{ArePredecessorRows-none}
use Rattle.pit_model.proofs.predecessors.Predecessors.new.Goals as goal

pub invariant_of-result : goal.invariant_of-result
invariant_of-result g c = ArePredecessorRows-none c.args.blocks c.new.result c.new-2.result.items c.new-3.result.items c.new-3.ensures.items

pub returns : goal.returns
returns g c = member_values-none c.args.blocks c.new.result (cells_of c.new-2.result.items c.new-3.result.items) (λ b. ap (λ (l : List Bool). get_or l b false) c.new.ensures)
