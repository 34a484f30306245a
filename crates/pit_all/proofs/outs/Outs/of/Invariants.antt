use Rattle.std.proofs.Common.{◌*◌, ◌≤◌, List}
use Rattle.std.specs.Prelude.{flat_map}
use Rattle.std.specs.List.{range_with_len}
use Rattle.pit_model.specs.declared.counts.TheConstants.{BLOCKS_MAX}
use Rattle.pit_plan.specs.Schedule.{Commit, held_period}
use Rattle.pit_plan.specs.Standing.{IsPlanOf}
use Rattle.pit_all.specs.Breaches.{outs_in}
use Rattle.pit_all.specs.Outs.{Counts}
use Rattle.pit_all.proofs.outs.Outs.of.Given as goal

abbrev pub invariant-loop-b : goal.invariant-loop-b
invariant-loop-b g l =
    (l.outs.count ≤ l.b * BLOCKS_MAX)
    × ((commits : List Commit) → IsPlanOf l.plan commits → Counts l.outs (flat_map (outs_in l.plan.pit (held_period commits)) (range_with_len 0 l.b)))
