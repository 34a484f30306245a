use Rattle.std.proofs.Common.{◌++◌, ◌∷◌, [], None, inl, inr, refl}
use Rattle.pit_text.specs.Cutting.{cut_of, end_line}
use Rattle.pit_text.specs.Left.{cut_seen, lines_left, end_left, fields_left}
use Rattle.pit_text.specs.Model.{model_line}
use Rattle.pit_text.proofs.Reading.{read_more, read_all, read_of, read_stands, read_fails, ok_fact, no_line}
use Rattle.pit_text.proofs.Headers.{end_is, body_begins, begun-more, stops_of}
use Rattle.pit_text.proofs.model.read_model.Goals as goal

pub loop-line-init : goal.loop-line-init
loop-line-init g c =
    let read = c.in_ok-draft.ensures in
    record {
      begun = read.4;
      facts = (
        read.0,
        read_of model_line (lines_left c.new-lines.result) (cut_of c.args.text.now) (lines_left c.read_header.new.lines) read.0 c.new-lines.ensures.lines read.1,
        body_begins read.0 c.in_ok-draft.draft c.in-Ok.builder read.2 c.in-Ok.ensures,
      );
    }

pub loop-line-preserved : goal.loop-line-preserved
loop-line-preserved g c =
    let was = c.loop-line.invariant.facts in
    let read = c.in_default-judge_line.ensures was.0 was.2 in
    record {
      begun = λ none. absurd (read.3 none);
      facts = (_, read_more model_line (cut_of c.args.text.now) (lines_left c.loop-line.lines) (lines_left c.next_said.new.lines) (cut_seen c.in-Some.line) was.0 read.0 was.1 c.in-Some.ensures.steps.0 read.1, read.2);
    }

pub returns : goal.returns
returns g c =
    let was = c.loop-line.invariant.facts in (
      was.0,
      record {
        stands = read_all model_line (cut_of c.args.text.now) (lines_left c.loop-line.lines) was.0 was.1 c.in_default-next_said.ensures.steps.0.0;
        whole = end_is was.0 None was.2.whole;
      },
      was.2.says,
    )

pub returns-in_default : goal.returns-in_default
returns-in_default g c =
    inl (refl, stops_of (lines_left c.new-lines.result) (cut_of c.args.text.now) (end_left c.new-lines.result) (end_line c.args.text.now) c.in_ok-draft.begun c.new-lines.ensures.lines c.new-lines.ensures.end c.in_ok-draft.ensures.5)

pub returns-in-Err : goal.returns-in-Err
returns-in-Err g c =
    let was = c.loop-line.invariant.facts in
    let line = cut_seen c.in-Some.line in
    elim (c.in-Err.ensures was.0 was.2) [
      | inl wanting ↦
          let stated = ok_fact (model_line was.0 (fields_left c.in-Some.line.fields)) wanting.1 in
          inl (
            wanting.0,
            inl (
              was.0 ++ stated.0 ∷ [],
              read_stands model_line (cut_of c.args.text.now) (lines_left c.loop-line.lines) (lines_left c.next_said.new.lines) line was.0 stated.0 was.1 c.in-Some.ensures.steps.0 stated.1,
              begun-more was.0 stated.0 c.loop-line.draft was.2.keeps (λ none. no_line (lines_left c.loop-line.lines) line (lines_left c.next_said.new.lines) (c.loop-line.invariant.begun none) c.in-Some.ensures.steps.0),
            ),
          )
      | inr wrong ↦
          inr (wrong.0, wrong.1, inl (read_fails model_line (cut_of c.args.text.now) (lines_left c.loop-line.lines) (lines_left c.next_said.new.lines) line was.0 wrong.0 was.1 c.in-Some.ensures.steps.0 wrong.2))
    ]
