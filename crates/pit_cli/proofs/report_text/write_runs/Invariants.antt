use Rattle.std.proofs.Common.{take}
use Rattle.std.specs.Io.KnownBytes.{Appends}
use Rattle.pit_cli.specs.ReportText.{runs_text}
use Rattle.pit_cli.proofs.report_text.write_runs.Given as goal

abbrev pub invariant-loop-run : goal.invariant-loop-run
invariant-loop-run g l = Appends (g.W.Sink.contents l.fn.w) (g.W.Sink.contents l.w) (runs_text (take l.run-index l.runs))
