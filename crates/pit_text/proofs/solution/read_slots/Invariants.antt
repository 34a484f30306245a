use Rattle.std.proofs.Common.{◌≡◌, ℕ, List, Option, length}
use Rattle.pit_text.specs.Cutting.{cut_of, end_line}
use Rattle.pit_text.specs.Left.{lines_left, end_left}
use Rattle.pit_text.specs.Inside.Stands.{IsReadTo}
use Rattle.pit_text.specs.Solution.{solution_line}
use Rattle.pit_text.specs.Inside.Solution.{AreSlots}
use Rattle.pit_text.proofs.solution.read_slots.Given as goal

abbrev pub invariant-loop-line : goal.invariant-loop-line
invariant-loop-line g l = record {
  end : end_left l.lines ≡ end_line l.text;
  facts : (facts : List (Option (ℕ × ℕ))) × IsReadTo (solution_line l.blocks l.periods) (cut_of l.text) (lines_left l.lines) facts × AreSlots l.blocks facts l.slots.items;
}

abbrev pub decreases-loop-line : goal.decreases-loop-line
decreases-loop-line g l = length (lines_left l.lines)
