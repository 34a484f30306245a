use Rattle.std.proofs.Common.{take}
use Rattle.std.specs.Io.KnownBytes.{Appends}
use Rattle.pit_plan.specs.Standing.{period_of}
use Rattle.pit_edit.specs.EditText.{conflict_lines}
use Rattle.pit_edit.specs.Inside.Reviews.{writer_in}
use Rattle.pit_edit.proofs.conflicts.write_lines.Given as goal

abbrev pub invariant-loop-b : goal.invariant-loop-b
invariant-loop-b g l =
    Appends (g.W.Sink.contents l.fn.w) (g.W.Sink.contents l.w) (conflict_lines l.edit (period_of l.plan) (writer_in l.plan l.makers) (take l.b-index l.blocks))
