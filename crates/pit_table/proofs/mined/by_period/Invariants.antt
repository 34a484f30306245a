use Rattle.pit_plan.specs.Standing.{period_of}
use Rattle.pit_table.specs.Inside.Mined.{AreMined}
use Rattle.pit_table.proofs.mined.by_period.Given as goal

abbrev pub invariant-loop-b : goal.invariant-loop-b
invariant-loop-b g l = AreMined l.plan.pit (period_of l.plan) l.b l.mined.items
