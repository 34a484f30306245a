use Rattle.std.proofs.Common.{◌≡◌, ap, sym, ◌∙◌, subst, Some, Result}
use Rattle.pit_text.specs.Left.{fields_left}
use Rattle.pit_text.specs.Stands.{◌>>=◌}
use Rattle.pit_text.specs.Model.{Fact, in_section, new_section_fact, model_line}
use Rattle.pit_text.specs.Causes.{cause_of}
use Rattle.pit_text.specs.Inside.Stands.{IsCauseOf}
use Rattle.pit_text.specs.Inside.PlainFacts.{IsSaid}
use Rattle.pit_text.specs.declared.error.Fault.{Fault}
use Rattle.pit_text.specs.declared.error.Cause.TheVariants.{NoMemory}
use Rattle.pit_text.specs.declared.model.section.Section.{Section}
use Rattle.pit_text.specs.declared.model.section_fact.SectionFact.{SectionFact}
use Rattle.pit_text.proofs.Standing.{some_of}
use Rattle.pit_text.proofs.ModelLines.{line_section_fact, match_map}
use Rattle.pit_text.proofs.Bodies.{body-section_fact}
use Rattle.pit_text.proofs.model.judge_line.Goals as goal

pub returns-in-Some : goal.returns-in-Some
returns-in-Some g c = λ facts is.
    let fields = fields_left c.args.fields in
    let fact = c.in-Some.fact in
    let known = some_of c.args.said fact (λ e. (s : Section) × (c.args.draft.now.section ≡ Some s) × IsSaid s fields e) c.in-Some.is c.requires.said in
    let said = known.2 in
    let line =
    ap (λ fs. model_line facts fs) said.some
    ∙ line_section_fact facts said.first said.more known.0 said.inside (is.keeps.section ∙ known.1)
    ∙ ap (λ (r : Result SectionFact Fault). r >>= new_section_fact facts) said.says in
    match_map c.add_said.result
    (λ _ ok. (in_section fact, line ∙ ok.0, body-section_fact facts fact c.args.draft.now c.args.builder.now c.add_said.new.builder is ok.1, c.requires.begun))
    (λ cause err. subst (λ (r : Result Fact Fault). IsCauseOf NoMemory cause_of r cause) (sym line) err)
    (c.add_said.ensures facts is.says)
