use Rattle.std.proofs.Common.{◌∷◌, sym, ◌∙◌, subst}
use Rattle.std.proofs.lemmas.Result.{err_from_is_err_and}
use Rattle.pit_num.specs.Refused.{IsRefusedBy}
use Rattle.pit_model.specs.Pit.{Pit}
use Rattle.pit_model.specs.declared.error.BuildError.TheVariants.{NoMemory}
use Rattle.pit_text.specs.Left.{fields_left}
use Rattle.pit_text.specs.SectionFacts.{section_fact_of, section_fact_refusal}
use Rattle.pit_text.specs.Model.{in_section, pit_of}
use Rattle.pit_text.proofs.Dues.{line_due}
use Rattle.pit_text.proofs.Wanting.{refused_fact}
use Rattle.pit_text.proofs.model.read_section_fact.Goals as goal

pub returns-in_err-add : goal.returns-in_err-add
returns-in_err-add g c = λ facts says.
    let p = err_from_is_err_and c.from_residual-in_err-add.result c.from_residual-in_err-add.ensures.1 in
    rw p.1
    (line_due (section_fact_of c.args.section (c.args.first.now ∷ fields_left c.args.fields)) c.in_ok-said.said (λ e. section_fact_refusal (pit_of facts) e) in_section c.add.result c.in_err-add.field-0.0 p.0
    (sym c.section_fact_of.ensures ∙ c.in_ok-said.was) c.in_err-add.was (refused_fact (pit_of facts) c.in_ok-said.said)
    (subst (λ (pit : Pit). IsRefusedBy NoMemory c.add.result (section_fact_refusal pit c.in_ok-said.said)) says c.add.ensures.cause) p.2)
