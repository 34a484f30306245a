use Rattle.std.proofs.Common.{◌<◌, ◌-◌, ◌≤◌}
use Rattle.pit_text.proofs.Plain.{AreRead}
use Rattle.pit_text.proofs.cutting.plain.listed_line.Given as goal

abbrev pub invariant-loop-left : goal.invariant-loop-left
invariant-loop-left g l = record {
  some : 0 < l.left;
  most : l.left ≤ l.count;
  read : AreRead l.text l.rest (l.count - l.left) l.listed.items;
}

abbrev pub decreases-loop-left : goal.decreases-loop-left
decreases-loop-left g l = l.left
