use Rattle.std.proofs.Common.{◌≡◌, None, Some, inr, ap, sym, refl, ◌∙◌, is_some}
use Rattle.pit_text.specs.Left.{cut_seen, lines_left, end_left}
use Rattle.pit_text.specs.Stands.{FailsAtEnd}
use Rattle.pit_text.specs.Model.{missing_key, model_line, model_end}
use Rattle.pit_text.specs.declared.error.Fault.TheVariants.{MissingHeader}
use Rattle.pit_text.proofs.Drafts.{missing_key-draft, header-whole}
use Rattle.pit_text.proofs.Reading.{read_all, read_left}
use Rattle.pit_text.proofs.Headers.{end_is, header_ends, header_goes_on}
use Rattle.pit_text.proofs.model.read_header.Goals as goal

pub returns-then-is_some : goal.returns-then-is_some
returns-then-is_some c =
    let was = c.loop-line.invariant.facts in
    let read = c.in_default-read_header_line.ensures was.0 was.2 in
    header_ends (lines_left c.args.lines.now) (lines_left c.loop-line.lines) (lines_left c.next.new.self) (cut_seen c.in-Some.line) (end_left c.args.lines.now) was.0 read.0 c.read_header_line.new.draft
    was.1 c.in-Some.ensures.steps.0 was.3 read.1 read.2 read.3 (ap (λ o. is_some o) (sym c.section.ensures) ∙ sym c.is_some.ensures ∙ c.if-is_some.true)

pub loop-line-preserved : goal.loop-line-preserved
loop-line-preserved c =
    let was = c.loop-line.invariant.facts in
    let read = c.in_default-read_header_line.ensures was.0 was.2 in
    let on = header_goes_on (lines_left c.args.lines.now) (lines_left c.loop-line.lines) (lines_left c.next.new.self) (cut_seen c.in-Some.line) was.0 read.0 c.read_header_line.new.draft
    was.1 c.in-Some.ensures.steps.0 was.3 read.1 read.2 read.3 (ap (λ o. is_some o) (sym c.section.ensures) ∙ sym c.is_some.ensures ∙ c.if-is_some.false) in
    record {
      end = c.in-Some.ensures.steps.1 ∙ c.loop-line.invariant.end;
      none = on.0;
      facts = on.1;
    }

pub returns-in-Some-missing_key : goal.returns-in-Some-missing_key
returns-in-Some-missing_key c =
    let was = c.loop-line.invariant.facts in
    let end : FailsAtEnd model_line model_end (lines_left c.args.lines.now) (end_left c.args.lines.now) _ (MissingHeader c.in-Some-missing_key.key) = record {
      facts = was.0;
      stands = read_all model_line (lines_left c.args.lines.now) (lines_left c.loop-line.lines) was.0 was.1 c.in_default.ensures.steps.0.0;
      number = c.end_line.ensures ∙ c.in_default.ensures.steps.1 ∙ c.loop-line.invariant.end;
      wanting = end_is was.0 (Some c.in-Some-missing_key.key) (missing_key-draft was.0 c.loop-line.draft was.2 ∙ sym c.missing_key.ensures ∙ c.in-Some-missing_key.is);
    } in
    (MissingHeader c.in-Some-missing_key.key, refl, inr end)

pub returns-in-None : goal.returns-in-None
returns-in-None c =
    let was = c.loop-line.invariant.facts in
    let whole : missing_key was.0 ≡ None = missing_key-draft was.0 c.loop-line.draft was.2 ∙ sym c.missing_key.ensures ∙ c.in-None.is in (
      was.0,
      read_left model_line (lines_left c.args.lines.now) (lines_left c.loop-line.lines) (lines_left c.next.new.self) was.0 (c.in_default.ensures.steps.0.0 ∙ sym c.in_default.ensures.steps.0.1) was.1,
      record { keeps = was.2; whole = whole; none = was.3 },
      header-whole was.0 c.loop-line.draft was.2 whole,
      λ _. c.in_default.ensures.steps.0.1,
      inr (
        was.0,
        record {
          stands = read_all model_line (lines_left c.args.lines.now) (lines_left c.loop-line.lines) was.0 was.1 c.in_default.ensures.steps.0.0;
          whole = end_is was.0 None whole;
        },
        c.end_line-in-None.ensures ∙ c.in_default.ensures.steps.1 ∙ c.loop-line.invariant.end,
      ),
    )
