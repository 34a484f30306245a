use Rattle.std.proofs.Common.{◌≡◌, List, [], None, length}
use Rattle.pit_text.specs.Cutting.{cut_of}
use Rattle.pit_text.specs.Left.{lines_left}
use Rattle.pit_text.specs.Inside.Stands.{IsReadTo}
use Rattle.pit_text.specs.Model.{Fact, model_line}
use Rattle.pit_text.specs.Inside.Draft.{IsBody}
use Rattle.pit_text.proofs.model.read_model.Given as goal

abbrev pub invariant-loop-line : goal.invariant-loop-line
invariant-loop-line g l = record {
  begun : l.draft.section ≡ None → lines_left l.lines ≡ [];
  facts : (facts : List Fact) × IsReadTo model_line (cut_of l.fn.text) (lines_left l.lines) facts × IsBody facts l.draft l.builder;
}

abbrev pub decreases-loop-line : goal.decreases-loop-line
decreases-loop-line g l = length (lines_left l.lines)
