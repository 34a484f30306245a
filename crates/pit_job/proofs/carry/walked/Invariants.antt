use Rattle.pit_job.specs.Cones.{Reaches}
use Rattle.pit_job.specs.Effect.{leads_to}
use Rattle.pit_job.specs.Inside.Doing.{LooksOn}
use Rattle.pit_job.specs.Inside.Walking.{IsGone}
use Rattle.pit_job.proofs.carry.walked.Given as goal

abbrev pub invariant-loop-i : goal.invariant-loop-i
invariant-loop-i g l = record {
  gone : IsGone g.S.Session.instance l.way l.b l.period l.fn.t l.t l.walk l.i;
  unmoved : LooksOn (Reaches (leads_to g.S.Session.instance l.way) l.b) l.fn.t l.t;
}
