use Rattle.std.proofs.Common.{◌≡◌, map, take}
use Rattle.pit_job.proofs.doing.blocks_of.Given as goal

abbrev pub invariant-loop-one : goal.invariant-loop-one
invariant-loop-one g l = l.blocks.items ≡ map (λ p. p.1) (take l.one-index l.placed)
