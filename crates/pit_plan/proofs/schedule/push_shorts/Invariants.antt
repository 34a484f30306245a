use Rattle.std.proofs.Common.{◌≡◌, ◌++◌}
use Rattle.std.specs.Prelude.{flat_map}
use Rattle.std.specs.List.{range_with_len}
use Rattle.pit_model.specs.Pit.{lower_of}
use Rattle.pit_plan.specs.Schedule.{by_block, load_of}
use Rattle.pit_plan.specs.Shortfalls.{short_at}
use Rattle.pit_plan.proofs.schedule.push_shorts.Given as goal

abbrev pub invariant-loop-r : goal.invariant-loop-r
invariant-loop-r g l =
    l.shorts.items ≡ l.initial.shorts.items
    ++ flat_map (λ r. short_at r l.t (load_of l.pit (by_block l.tally.periods) r l.t) (lower_of l.pit r l.t)) (range_with_len 0 l.r)
