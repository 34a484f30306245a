-- The limit lines of a model.
use Rattle.std.specs.Prelude.{List, Option, Some, None}
use Rattle.std.specs.List.{filter_map}
use Rattle.pit_model.specs.Tightest.{LimitLine}
use Rattle.pit_text.specs.declared.model.section_fact.SectionFact.{SectionFact}
use Rattle.pit_text.specs.declared.model.section_fact.SectionFact.TheVariants.{Profit, Coefficient, Limit}
use Rattle.pit_text.specs.Model.{Fact, section_facts}

abbrev pub limit_in : SectionFact → Option LimitLine
limit_in (Profit block value) = None
limit_in (Coefficient block resource value) = None
limit_in (Limit resource period lo hi) = Some (record { resource = resource; period = period; lower = lo; upper = hi })

-- in the order of the text
abbrev pub limit_lines : List Fact → List LimitLine
limit_lines facts = filter_map limit_in (section_facts facts)
