use Rattle.std.proofs.Common.{◌≡◌, take}
use Rattle.pit_log.specs.Makers.{AreMakers}
use Rattle.pit_edit.proofs.merging.makers_of.Given as goal

abbrev pub invariant-loop-entry : goal.invariant-loop-entry
invariant-loop-entry g l = record { number : l.number ≡ l.entry-index; made : AreMakers (take l.entry-index l.history) l.makers.items }
