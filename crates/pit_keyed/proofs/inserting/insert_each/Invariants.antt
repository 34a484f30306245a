use Rattle.pit_keyed.proofs.Each.{IsEachTo}
use Rattle.pit_keyed.proofs.inserting.insert_each.Given as goal

abbrev pub invariant-loop-key : goal.invariant-loop-key
invariant-loop-key g l = IsEachTo g.K.PartialEq.eq l.fn.map.entries l.keys l.value l.key-index l.map
