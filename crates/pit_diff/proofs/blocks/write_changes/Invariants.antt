use Rattle.std.specs.Io.KnownBytes.{Appends}
use Rattle.pit_plan.specs.Standing.{period_of}
use Rattle.pit_diff.specs.Changes.{changes_of}
use Rattle.pit_diff.specs.DiffText.{changes_text}
use Rattle.pit_diff.proofs.blocks.write_changes.Given as goal

abbrev pub invariant-loop-b : goal.invariant-loop-b
invariant-loop-b g l = Appends (g.W.Sink.contents l.fn.w) (g.W.Sink.contents l.w) (changes_text (changes_of l.b (period_of l.old) (period_of l.new)))
