use Rattle.std.proofs.Common.{take}
use Rattle.std.specs.Io.KnownBytes.{Appends}
use Rattle.pit_cli.specs.ReportText.{jobs_text}
use Rattle.pit_cli.proofs.report_text.write_jobs.Given as goal

abbrev pub invariant-loop-i : goal.invariant-loop-i
invariant-loop-i g l = Appends (g.W.Sink.contents l.fn.w) (g.W.Sink.contents l.w) (jobs_text l.planner 1 (take l.i l.outcomes))
