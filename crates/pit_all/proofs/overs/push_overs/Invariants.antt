use Rattle.std.proofs.Common.{◌≡◌, ◌++◌, List}
use Rattle.std.specs.Prelude.{flat_map}
use Rattle.std.specs.List.{range_with_len}
use Rattle.pit_plan.specs.Schedule.{Commit, held_period, limit_of, load_of}
use Rattle.pit_plan.specs.Standing.{IsPlanOf}
use Rattle.pit_all.specs.Breaches.{over_at}
use Rattle.pit_all.proofs.overs.push_overs.Given as goal

abbrev pub invariant-loop-r : goal.invariant-loop-r
invariant-loop-r g l =
    (commits : List Commit) → IsPlanOf l.plan commits
    → l.overs.items ≡ l.fn.overs.items ++ flat_map (λ r. over_at r l.t (load_of l.plan.pit (held_period commits) r l.t) (limit_of l.plan.pit commits r l.t)) (range_with_len 0 l.r)
