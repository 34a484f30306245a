use Rattle.std.proofs.Common.{◌≡◌}
use Rattle.std.specs.Prelude.{flat_map}
use Rattle.std.specs.List.{range_with_len}
use Rattle.pit_plan.specs.Shortfalls.{shorts_in}
use Rattle.pit_plan.specs.Schedule.{by_block}
use Rattle.pit_plan.proofs.schedule.shortfalls.Given as goal

abbrev pub invariant-loop-t : goal.invariant-loop-t
invariant-loop-t g l = l.shorts.items ≡ flat_map (shorts_in l.pit (by_block l.tally.periods)) (range_with_len 0 l.t)
