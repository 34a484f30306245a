use Rattle.std.proofs.Common.{◌≡◌, take}
use Rattle.pit_plan.proofs.overlay.written.Given as goal

abbrev pub invariant-loop-block : goal.invariant-loop-block
invariant-loop-block g l = l.map.entries ≡ take l.block-index l.writes
