use Rattle.std.proofs.Common.{◌≡◌, Bool, drop}
use Rattle.pit_share.specs.Planners.{TransactionState, SeesOn}
use Rattle.pit_job.specs.Outcomes.{IsRead}
use Rattle.pit_job.specs.Inside.Doing.{DoesSteps, LooksOn}
use Rattle.pit_job.proofs.doing.do_steps.Given as goal

abbrev pub invariant-loop-step : goal.invariant-loop-step
invariant-loop-step g l = record {
  sees : SeesOn l.initial.t.planner l.t.planner;
  start : l.t.work.start ≡ l.initial.t.work.start;
  unmoved : LooksOn (IsRead g.S.Session.instance l.steps) l.initial.t l.t;
  does : (new : TransactionState) (goes : Bool) → DoesSteps g.S.Session.instance l.t (drop l.step-index l.steps) goes new → DoesSteps g.S.Session.instance l.initial.t l.steps goes new;
}
