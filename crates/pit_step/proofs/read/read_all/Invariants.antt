use Rattle.std.proofs.Common.{◌≡◌, ◌+◌, ◌-◌, ◌<◌, length, false}
use Rattle.std.specs.Io.KnownBytes.{Consumes}
use Rattle.pit_step.specs.declared.read.TheConstants.{INPUT_BYTES_MAX}
use Rattle.pit_step.proofs.read.read_all.Given as goal

abbrev pub invariant-loop-chunk : goal.invariant-loop-chunk
invariant-loop-chunk g l = record {
  taken : Consumes (g.R.Source.remaining l.fn.source) (g.R.Source.remaining l.source) l.text.items;
  sound : 0 < length l.text.items → g.R.Source.has_failed l.source ≡ false;
}

abbrev pub decreases-loop-chunk : goal.decreases-loop-chunk
decreases-loop-chunk g l = INPUT_BYTES_MAX + 1 - length l.text.items
