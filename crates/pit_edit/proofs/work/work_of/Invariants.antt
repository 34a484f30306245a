use Rattle.std.proofs.Common.{◌≡◌, take}
use Rattle.pit_edit.specs.Inside.Works.{sets_of}
use Rattle.pit_edit.proofs.work.work_of.Given as goal

abbrev pub invariant-loop-b : goal.invariant-loop-b
invariant-loop-b g l = l.work ≡ sets_of l.plan.pit l.edit (take l.b-index l.blocks)
