use Rattle.std.proofs.Common.{ap, sym, ◌∙◌, inr, subst, Result}
use Rattle.std.proofs.lemmas.Result.{err_from_is_err_and}
use Rattle.pit_text.specs.Left.{fields_left}
use Rattle.pit_text.specs.Model.{Fact, skipped, section, in_section, model_line}
use Rattle.pit_text.specs.Causes.{cause_of}
use Rattle.pit_text.specs.Inside.Stands.{IsCauseOf}
use Rattle.pit_text.specs.declared.error.Fault.{Fault}
use Rattle.pit_text.specs.declared.error.Cause.TheVariants.{NoMemory}
use Rattle.pit_text.proofs.ModelLines.{line_empty, line_section, line_section_fact, match_map}
use Rattle.pit_text.proofs.Bodies.{body-section, body-skipped, body-section_fact, is_begun, not_none}
use Rattle.pit_text.proofs.model.general_line.Goals as goal

pub returns-in_default : goal.returns-in_default
returns-in_default g c = λ facts is.
    (skipped, ap (λ fs. model_line facts fs) c.in_default.ensures.steps.0 ∙ line_empty facts, body-skipped facts c.args.draft.now c.args.builder.now is, c.requires)

pub returns-in-Some-section_of : goal.returns-in-Some-section_of
returns-in-Some-section_of g c = λ facts is.
    let s = c.in-Some-section_of.section in
    let line = ap (λ fs. model_line facts fs) c.in-Some.ensures.steps ∙ line_section facts c.in-Some.first.now (fields_left c.next.new.self) s (sym c.section_of.ensures ∙ c.in-Some-section_of.is) in
    let ok = c.in_ok-start.ensures facts is.keeps in
    (section s, line ∙ ok.0, body-section facts s c.args.draft.now c.start.new.self c.args.builder.now is ok.1, not_none c.start.new.self.section s (is_begun facts s c.start.new.self ok.1))

pub returns-in_err-start : goal.returns-in_err-start
returns-in_err-start g c = λ facts is.
    let s = c.in-Some-section_of.section in
    let p = err_from_is_err_and c.from_residual.result c.from_residual.ensures.1 in
    let line = ap (λ fs. model_line facts fs) c.in-Some.ensures.steps ∙ line_section facts c.in-Some.first.now (fields_left c.next.new.self) s (sym c.section_of.ensures ∙ c.in-Some-section_of.is) in
    rw p.1 (inr (c.in_err-start.field-0.0, p.2, line ∙ c.in_err-start.ensures facts is.keeps))

pub returns : goal.returns
returns g c = λ facts is.
    let s = c.in-Some-section.section in
    let inside = is.keeps.section ∙ sym c.section.ensures ∙ c.in-Some-section.is in
    let line = ap (λ fs. model_line facts fs) c.in-Some.ensures.steps ∙ line_section_fact facts c.in-Some.first.now (fields_left c.next.new.self) s (sym c.section_of.ensures ∙ c.in_default-section_of.is) inside in
    match_map c.read_section_fact.result
    (λ _ ok. (in_section ok.0, line ∙ ok.1, body-section_fact facts ok.0 c.args.draft.now c.args.builder.now c.read_section_fact.new.builder is ok.2, c.requires))
    (λ cause err. subst (λ (r : Result Fact Fault). IsCauseOf NoMemory cause_of r cause) (sym line) err)
    (c.read_section_fact.ensures facts is.says)
