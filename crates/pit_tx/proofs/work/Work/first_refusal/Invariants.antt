use Rattle.pit_tx.proofs.Refusing.{IsLookedTo}
use Rattle.pit_tx.proofs.work.Work.first_refusal.Given as goal

abbrev pub invariant-loop-b : goal.invariant-loop-b
invariant-loop-b g l = IsLookedTo l.self l.blocks l.t l.b-index
