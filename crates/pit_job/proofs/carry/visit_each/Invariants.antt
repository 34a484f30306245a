use Rattle.std.proofs.Common.{drop}
use Rattle.std.specs.List.{Contains}
use Rattle.pit_share.specs.Planners.{TransactionState}
use Rattle.pit_job.specs.declared.doing.StepStop.TheVariants as stop
use Rattle.pit_job.specs.Inside.Doing.{LooksOn, StopsAt}
use Rattle.pit_job.specs.Inside.Walking.{WalkState, VisitsEach}
use Rattle.pit_job.proofs.carry.visit_each.Given as goal

abbrev pub invariant-loop-b : goal.invariant-loop-b
invariant-loop-b g l = record {
  so_far : StopsAt (Contains l.blocks) l.initial.t stop.NoMemory l.t;
  unmoved : LooksOn (Contains l.blocks) l.initial.t l.t;
  does : (new : TransactionState) (after : WalkState) → VisitsEach l.way l.period l.t l.walk (drop l.b-index l.blocks) new after
      → VisitsEach l.way l.period l.initial.t l.initial.walk l.blocks new after;
}
