use Rattle.std.proofs.Common.{◌≡◌, map}
use Rattle.pit.proofs.merge_files.each_in.Given as goal

abbrev pub invariant-loop-file : goal.invariant-loop-file
invariant-loop-file g l = map (λ source. g.F.Read.remaining source.reader) l.sources.items ≡ map (λ file. g.F.Read.remaining file.file) l.yielded
