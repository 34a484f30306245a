use Rattle.std.proofs.Common.{◌≡◌, List, [], None, length}
use Rattle.pit_text.specs.Left.{lines_left, end_left}
use Rattle.pit_text.specs.Inside.Stands.{IsReadTo}
use Rattle.pit_text.specs.Model.{Fact, section_facts, model_line}
use Rattle.pit_text.specs.Inside.Draft.{IsDraft}
use Rattle.pit_text.proofs.model.read_header.Given as goal

abbrev pub invariant-loop-line : goal.invariant-loop-line
invariant-loop-line l = record {
  end : end_left l.lines ≡ end_left l.fn.lines;
  none : l.draft.section ≡ None;
  facts : (facts : List Fact) × IsReadTo model_line (lines_left l.fn.lines) (lines_left l.lines) facts × IsDraft facts l.draft × (section_facts facts ≡ []);
}

abbrev pub decreases-loop-line : goal.decreases-loop-line
decreases-loop-line l = length (lines_left l.lines)
