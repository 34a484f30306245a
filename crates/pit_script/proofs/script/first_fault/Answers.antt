use Rattle.pit_text.specs.Left.{cut_seen, lines_left}
use Rattle.pit_script.proofs.FirstLine.{first-answered}
use Rattle.pit_script.proofs.script.first_fault.Goals as goal

pub returns : goal.returns
returns g c =
    first-answered c.args.pit.now c.args.text.now (lines_left c.new-lines.result) (lines_left c.next.new.self) (cut_seen c.in-Some.line) c.first_cause.result c.new-lines.ensures.lines c.in-Some.ensures.steps.0 c.first_cause.ensures
