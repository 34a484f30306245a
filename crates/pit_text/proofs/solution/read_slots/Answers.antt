use Rattle.std.proofs.Common.{◌++◌, ◌∷◌, [], Some, refl, inl, inr, sym, ◌∙◌}
use Rattle.pit_text.specs.Cutting.{cut_of}
use Rattle.pit_text.specs.Left.{cut_seen, lines_left}
use Rattle.pit_text.specs.Solution.{solution_line}
use Rattle.pit_text.proofs.Reading.{read_more, read_all, read_stands, read_fails}
use Rattle.pit_text.proofs.Standing.{slots_none, schedules_some}
use Rattle.pit_text.proofs.solution.read_slots.Goals as goal

pub loop-line-init : goal.loop-line-init
loop-line-init g c = record {
  end = c.new-lines.ensures.end;
  facts = (
    [],
    record { done = []; cut = sym c.new-lines.ensures.lines; stands = refl },
    slots_none c.args.blocks c.new-slots.result.items c.new-slots.ensures.items,
  );
}

pub loop-line-preserved : goal.loop-line-preserved
loop-line-preserved g c =
    let was = c.loop-line.invariant.facts in
    let read = c.in_default-judge_line.ensures was.0 was.2 in
    record {
      end = c.in-Some.ensures.steps.1 ∙ c.loop-line.invariant.end;
      facts = (
        _,
        read_more (solution_line c.args.blocks c.args.periods) (cut_of c.args.text.now) (lines_left c.loop-line.lines) (lines_left c.next_pair.new.self) (cut_seen c.in-Some.line) was.0 read.0 was.1 c.in-Some.ensures.steps.0 read.1,
        read.2,
      );
    }

pub returns-in-Err : goal.returns-in-Err
returns-in-Err g c =
    let was = c.loop-line.invariant.facts in
    let judge = solution_line c.args.blocks c.args.periods in
    let line = cut_seen c.in-Some.line in
    elim (c.in-Err.ensures was.0 was.2) [
      | inl wanting ↦ inl (
        wanting.0,
        (
          was.0 ++ Some wanting.1.0 ∷ [],
          inl (read_stands judge (cut_of c.args.text.now) (lines_left c.loop-line.lines) (lines_left c.next_pair.new.self) line was.0 (Some wanting.1.0) was.1 c.in-Some.ensures.steps.0 wanting.1.1),
          schedules_some was.0 wanting.1.0,
        ),
      )
      | inr wrong ↦ inr (wrong.0, wrong.1, read_fails judge (cut_of c.args.text.now) (lines_left c.loop-line.lines) (lines_left c.next_pair.new.self) line was.0 wrong.0 was.1 c.in-Some.ensures.steps.0 wrong.2)
    ]

pub returns : goal.returns
returns g c =
    let was = c.loop-line.invariant.facts in (
      was.0,
      read_all (solution_line c.args.blocks c.args.periods) (cut_of c.args.text.now) (lines_left c.loop-line.lines) was.0 was.1 c.in_default.ensures.steps.0.0,
      was.2,
      c.end_line.ensures ∙ c.in_default.ensures.steps.1 ∙ c.loop-line.invariant.end,
    )
