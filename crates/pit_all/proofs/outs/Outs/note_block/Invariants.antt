use Rattle.std.proofs.Common.{◌+◌, ◌≤◌, List, take}
use Rattle.std.specs.Prelude.{flat_map}
use Rattle.pit_plan.specs.Schedule.{Commit, held_period}
use Rattle.pit_plan.specs.Standing.{IsPlanOf}
use Rattle.pit_all.specs.Breaches.{out_at}
use Rattle.pit_all.specs.Outs.{Notes}
use Rattle.pit_all.proofs.outs.Outs.note_block.Given as goal

abbrev pub invariant-loop-a : goal.invariant-loop-a
invariant-loop-a g l =
    (l.self.count ≤ l.fn.self.count + l.a-index)
    × ((commits : List Commit) → IsPlanOf l.plan commits → Notes l.fn.self (flat_map (out_at (held_period commits) l.b) (take l.a-index l.a-items)) l.self)
