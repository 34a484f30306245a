use Rattle.std.proofs.Common.{◌≡◌, None, slice_index_or}
use Rattle.pit_text.specs.Solution.{schedule_of}
use Rattle.pit_text.proofs.solution.schedule_of.Given as goal

abbrev pub invariant-loop-block : goal.invariant-loop-block
invariant-loop-block g l = l.solution.items ≡ schedule_of l.block (λ b. slice_index_or l.slots b None)
