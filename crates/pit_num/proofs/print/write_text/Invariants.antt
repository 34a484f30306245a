use Rattle.std.proofs.Common.{◌≡◌, ◌<◌, List, [], ℕ, ◌++◌, length, false}
use Rattle.std.specs.Io.KnownBytes.{Appends}
use Rattle.pit_num.proofs.print.write_text.Given as goal

abbrev pub invariant-loop-rest : goal.invariant-loop-rest
invariant-loop-rest g l = record {
  given : (done : List ℕ) × (l.fn.text ≡ done ++ l.rest) × Appends (g.W.Sink.contents l.fn.w) (g.W.Sink.contents l.w) done;
  untouched : l.fn.text ≡ [] → l.w ≡ l.fn.w;
  sound : length l.rest < length l.fn.text → g.W.Sink.has_failed l.w ≡ false;
}

abbrev pub decreases-loop-rest : goal.decreases-loop-rest
decreases-loop-rest g l = length l.rest
