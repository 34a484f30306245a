use Rattle.std.proofs.Common.{◌≡◌, List}
use Rattle.std.specs.Prelude.{flat_map}
use Rattle.std.specs.List.{range_with_len}
use Rattle.pit_plan.specs.Schedule.{Commit, held_period, limit_of}
use Rattle.pit_plan.specs.Standing.{IsPlanOf}
use Rattle.pit_all.specs.Breaches.{overs_in}
use Rattle.pit_all.proofs.overs.overs.Given as goal

abbrev pub invariant-loop-t : goal.invariant-loop-t
invariant-loop-t g l =
    (commits : List Commit) → IsPlanOf l.plan commits → l.overs.items ≡ flat_map (overs_in l.plan.pit (held_period commits) (limit_of l.plan.pit commits)) (range_with_len 0 l.t)
