use Rattle.std.proofs.Common.{List}
use Rattle.pit_desk.specs.History.{Answered}
use Rattle.pit_job.specs.Inside.Runs.{job_numbered}
use Rattle.pit_job.specs.Outcomes.{Grows, Repeats}
use Rattle.pit_job.proofs.planner_run.run_job.Given as goal

abbrev pub invariant-loop-before : goal.invariant-loop-before
invariant-loop-before g l =
    (es : List Answered) × Grows l.initial.now es l.now × Repeats g.S.Session.instance (job_numbered l.script.jobs l.n) l.n l.before l.initial.now.seen l.now.seen es
