use Rattle.std.proofs.Common.{take}
use Rattle.sha2.specs.Hashers.{Holds256}
use Rattle.pit_lines.specs.Texts.{entries_text}
use Rattle.pit_lines.specs.declared.format.Format.TheVariants.{Two}
use Rattle.pit_show.proofs.comment.sum_of.Given as goal

abbrev pub invariant-loop-entry : goal.invariant-loop-entry
invariant-loop-entry g l = Holds256 l.hasher (entries_text Two (take l.entry-index l.entries))
