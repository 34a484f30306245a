use Rattle.std.proofs.Common.{take}
use Rattle.pit.specs.Files.{numbered}
use Rattle.pit.specs.OpenFiles.{AreOpen}
use Rattle.pit.specs.Sources.{part_input}
use Rattle.pit.proofs.Opening.{texts_of}
use Rattle.pit.proofs.source_files.open_parts.Given as goal

abbrev pub invariant-loop-i : goal.invariant-loop-i
invariant-loop-i g l = AreOpen g.D.File.Read.remaining (g.D.Disk.told l.disk) (numbered (part_input l.parts) 1 (texts_of (take l.i l.paths))) l.files.items
