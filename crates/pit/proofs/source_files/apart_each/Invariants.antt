use Rattle.std.proofs.Common.{All, Some, take}
use Rattle.pit.specs.OpenFiles.{name_of}
use Rattle.pit.proofs.Apart.{IsApart}
use Rattle.pit.proofs.source_files.apart_each.Given as goal

abbrev pub invariant-loop-file : goal.invariant-loop-file
invariant-loop-file g l = All (λ file. IsApart (g.D.Disk.told l.disk) (Some l.history) (name_of file)) (take l.file-index l.files)
