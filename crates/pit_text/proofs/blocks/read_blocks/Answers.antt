use Rattle.std.proofs.Common.{ℕ, ℤ, [], Result, refl, ap, sym, ◌∙◌, subst}
use Rattle.pit_model.specs.Pit.{Pit}
use Rattle.pit_text.specs.Cutting.{cut_of}
use Rattle.pit_text.specs.Left.{cut_seen, fields_left, lines_left}
use Rattle.pit_text.specs.Blocks.{block_line, place_fact, with_place_fact}
use Rattle.pit_text.specs.Causes.{cause_of}
use Rattle.pit_text.specs.Inside.Stands.{IsCauseOf}
use Rattle.pit_text.specs.declared.error.Fault.{Fault}
use Rattle.pit_text.specs.declared.error.Cause.TheVariants.{NoMemory}
use Rattle.pit_text.proofs.Pits.{pit_with-none, pit_with-more, line_of_pit-is}
use Rattle.pit_text.proofs.Reading.{read_more, read_stops}
use Rattle.pit_text.proofs.blocks.read_blocks.Goals as goal

pub loop-line-init : goal.loop-line-init
loop-line-init g c = ([], record { done = []; cut = sym c.new-lines.ensures.lines; stands = refl }, sym (pit_with-none with_place_fact c.args.builder))

pub loop-line-preserved : goal.loop-line-preserved
loop-line-preserved g c =
    let was = c.loop-line.invariant in
    let read = c.in_default-judge_line.ensures in
    let given : Pit = c.args.builder in (
      _,
      read_more (block_line given) (cut_of c.args.text.now) (lines_left c.loop-line.lines) (lines_left c.next.new.self) (cut_seen c.in-Some.line) was.0 read.0 was.1 c.in-Some.ensures.steps.0
          (line_of_pit-is with_place_fact place_fact given c.loop-line.builder was.0 (fields_left c.in-Some.line.fields) _ was.2 read.1),
      read.2 ∙ ap (λ (p : Pit). with_place_fact p read.0) was.2 ∙ sym (pit_with-more with_place_fact given was.0 read.0),
    )

pub returns-in-Err : goal.returns-in-Err
returns-in-Err g c =
    let was = c.loop-line.invariant in
    let given : Pit = c.args.builder in
    let fields = fields_left c.in-Some.line.fields in
    read_stops NoMemory cause_of (block_line given) (cut_of c.args.text.now) (lines_left c.loop-line.lines) (lines_left c.next.new.self) (cut_seen c.in-Some.line) was.0 c.in-Err.cause was.1 c.in-Some.ensures.steps.0
    (subst (λ (r : Result (ℕ × (ℤ × ℤ × ℤ)) Fault). IsCauseOf NoMemory cause_of r c.in-Err.cause)
    (sym (line_of_pit-is with_place_fact place_fact given c.loop-line.builder was.0 fields (place_fact c.loop-line.builder fields) was.2 refl)) c.in-Err.ensures)
