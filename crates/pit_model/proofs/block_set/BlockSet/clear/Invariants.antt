use Rattle.pit_model.proofs.BlockSets.{IsClearedTo}
use Rattle.pit_model.proofs.block_set.BlockSet.clear.Given as goal

abbrev pub invariant-loop-b : goal.invariant-loop-b
invariant-loop-b g l = IsClearedTo l.initial.self l.self l.blocks l.b-index
