use Rattle.std.proofs.Common.{◌≡◌, ℕ, ℤ, List, length}
use Rattle.pit_text.specs.Cutting.{cut_of}
use Rattle.pit_text.specs.Left.{lines_left}
use Rattle.pit_text.specs.Inside.Stands.{IsReadTo}
use Rattle.pit_text.specs.Blocks.{block_line, pit_with_places}
use Rattle.pit_text.proofs.blocks.read_blocks.Given as goal

abbrev pub invariant-loop-line : goal.invariant-loop-line
invariant-loop-line g l = (facts : List (ℕ × (ℤ × ℤ × ℤ))) × IsReadTo (block_line l.fn.builder) (cut_of l.fn.text) (lines_left l.lines) facts × (l.builder ≡ pit_with_places l.fn.builder facts)

abbrev pub decreases-loop-line : goal.decreases-loop-line
decreases-loop-line g l = length (lines_left l.lines)
