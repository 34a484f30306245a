use Rattle.std.proofs.Common.{[], Result, refl, ap, sym, ◌∙◌, subst}
use Rattle.pit_text.specs.Cutting.{cut_of}
use Rattle.pit_text.specs.Left.{cut_seen, fields_left, lines_left}
use Rattle.pit_text.specs.Inside.Stands.{IsCauseOf}
use Rattle.pit_text.proofs.CallerLemmas.{read_more, read_all, read_stops}
use Rattle.pit_script.specs.Causes.{script_cause_of}
use Rattle.pit_script.specs.Jobs.{Progress, with_fact, fact_in, script_line}
use Rattle.pit_script.specs.declared.error.ScriptFault.{ScriptFault}
use Rattle.pit_script.specs.declared.error.ScriptCause.TheVariants.{NoMemory}
use Rattle.pit_script.specs.declared.fact.ScriptFact.{ScriptFact}
use Rattle.pit_script.proofs.Progressing.{progress_of-none, progress_of-more, judged}
use Rattle.pit_script.proofs.Ranging.{in_range-begins, in_range-more}
use Rattle.pit_script.proofs.script.read_lines.Goals as goal

pub loop-line-init : goal.loop-line-init
loop-line-init g c = record {
  in_range = in_range-begins c.args.benches.now c.new-draft.result c.new-draft.ensures;
  end = c.new-lines.ensures.end;
  facts = (
    [],
    record { done = []; cut = sym c.new-lines.ensures.lines; stands = refl },
    c.new-draft.ensures ∙ sym progress_of-none,
  );
}

pub loop-line-preserved : goal.loop-line-preserved
loop-line-preserved g c =
    let was = c.loop-line.invariant.facts in
    let read = c.in_default-add_line.ensures in
    let pit = c.args.benches.now in
    record {
      in_range = in_range-more pit c.loop-line.draft c.add_line.new.draft read.0 read.1 read.3 c.loop-line.invariant.in_range;
      end = c.in-Some.ensures.steps.1 ∙ c.loop-line.invariant.end;
      facts = (
        _,
        read_more (script_line pit) (cut_of c.args.text.now) (lines_left c.loop-line.lines) (lines_left c.next.new.self) (cut_seen c.in-Some.line) was.0 read.0 was.1 c.in-Some.ensures.steps.0
            (judged pit c.loop-line.draft was.0 (fields_left c.in-Some.line.fields) _ was.2 read.2),
        read.3 ∙ ap (λ (p : Progress). with_fact p read.0) was.2 ∙ sym (progress_of-more was.0 read.0),
      );
    }

pub returns-in-Err-clause-result : goal.returns-in-Err-clause-result
returns-in-Err-clause-result g c =
    let was = c.loop-line.invariant.facts in
    let pit = c.args.benches.now in
    let fields = fields_left c.in-Some.line.fields in
    read_stops NoMemory script_cause_of (script_line pit) (cut_of c.args.text.now) (lines_left c.loop-line.lines) (lines_left c.next.new.self) (cut_seen c.in-Some.line) was.0 c.in-Err.cause was.1 c.in-Some.ensures.steps.0
    (subst (λ (r : Result ScriptFact ScriptFault). IsCauseOf NoMemory script_cause_of r c.in-Err.cause)
    (sym (judged pit c.loop-line.draft was.0 fields (fact_in pit c.loop-line.draft fields) was.2 refl)) c.in-Err.ensures)

pub returns-clause-result : goal.returns-clause-result
returns-clause-result g c =
    let was = c.loop-line.invariant.facts in (
      was.0,
      read_all (script_line c.args.benches.now) (cut_of c.args.text.now) (lines_left c.loop-line.lines) was.0 was.1 c.in_default.ensures.steps.0.0,
      was.2,
      c.end_line.ensures ∙ c.in_default.ensures.steps.1 ∙ c.loop-line.invariant.end,
    )
