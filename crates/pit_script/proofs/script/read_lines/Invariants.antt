use Rattle.std.proofs.Common.{◌≡◌, List, length}
use Rattle.pit_text.specs.Cutting.{cut_of, end_line}
use Rattle.pit_text.specs.Left.{lines_left, end_left}
use Rattle.pit_text.specs.Inside.Stands.{IsReadTo}
use Rattle.pit_script.specs.Jobs.{progress_of, script_line}
use Rattle.pit_script.specs.Inside.Ranges.{IsProgressIn}
use Rattle.pit_script.specs.declared.fact.ScriptFact.{ScriptFact}
use Rattle.pit_script.proofs.script.read_lines.Given as goal

abbrev pub invariant-loop-line : goal.invariant-loop-line
invariant-loop-line g l = record {
  in_range : IsProgressIn l.benches l.draft;
  end : end_left l.lines ≡ end_line l.text;
  facts : (facts : List ScriptFact) × IsReadTo (script_line l.benches) (cut_of l.text) (lines_left l.lines) facts × (l.draft ≡ progress_of facts);
}

abbrev pub decreases-loop-line : goal.decreases-loop-line
decreases-loop-line g l = length (lines_left l.lines)
