use Rattle.std.proofs.Common.{◌≡◌, take}
use Rattle.pit_plan.specs.Standing.{version_of}
use Rattle.pit_edit.specs.Inside.Parts.{part_of}
use Rattle.pit_edit.proofs.changes.part_of.Given as goal

abbrev pub invariant-loop-b : goal.invariant-loop-b
invariant-loop-b g l = l.part.items ≡ part_of l.wants_late l.start (version_of l.plan) (take l.b-index l.blocks)
