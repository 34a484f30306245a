use Rattle.std.proofs.Common.{◌+◌, List}
use Rattle.pit_desk.specs.History.{Answered}
use Rattle.pit_job.specs.Outcomes.{Grows}
use Rattle.pit_job.specs.Inside.Runs.{RanUpTo}
use Rattle.pit_job.proofs.planner_run.run_script.Given as goal

abbrev pub invariant-loop-i : goal.invariant-loop-i
invariant-loop-i g l =
    (es : List Answered) × Grows l.initial.now es l.now
    × RanUpTo g.S.Session.instance g.S.Session.max_entries l.retries l.initial.now.seen l.now.seen l.script.jobs l.i (l.i + 1) es l.outcomes.items
