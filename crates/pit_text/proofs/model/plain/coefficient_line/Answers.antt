use Rattle.std.proofs.Common.{rules, ℤ, w64, sym, subst}
use Rattle.std.proofs.lemmas.Int.{to_z-of_z}
use Rattle.pit_text.specs.declared.model.section.Section.TheVariants.{Coefficients}
use Rattle.pit_text.specs.declared.model.section_fact.SectionFact.TheVariants.{Coefficient}
use Rattle.pit_text.specs.Inside.PlainFacts.{SaysFact}
use Rattle.pit_text.proofs.PlainFacts.{coefficient_said}
use Rattle.pit_text.proofs.model.plain.coefficient_line.Goals as goal

pub returns : goal.returns
returns c =
    subst (λ (v : ℤ). SaysFact Coefficients c.args.text.now (Coefficient c.in_ok-block.block c.in_ok-resource.resource v) c.in_ok-value.rest.now) (sym (to_z-of_z w64 c.in_ok-value.value (search rules)))
    (coefficient_said c.args.text.now c.in_ok-block.behind.now c.in_ok-resource.last.now c.in_ok-value.rest.now c.in_ok-block.block c.in_ok-resource.resource c.in_ok-value.value c.in_ok-block.ensures c.in_ok-resource.ensures c.in_ok-value.ensures)
