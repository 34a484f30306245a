use Rattle.std.proofs.Common.{length}
use Rattle.pit_merge.proofs.merger.Merger.+take_each.Given as goal

abbrev pub decreases-take_each : goal.decreases-take_each
decreases-take_each g l = length l.edits.now
