use Rattle.std.proofs.Common.{inr, subst, ap, ◌∙◌}
use Rattle.pit_base.specs.Bases.{fault_of}
use Rattle.pit_base.specs.declared.error.BaseFault.{BaseFault}
use Rattle.pit_merge.specs.Edits.{Ground}
use Rattle.pit_merge.specs.Inside.Parts.{IsByEntries, IsEntriesFault}
use Rattle.pit_merge.proofs.parts.by_entries.Goals as goal

pub returns-in-Ok-history_base-clause-wanted : goal.returns-in-Ok-history_base-clause-wanted
returns-in-Ok-history_base-clause-wanted g c =
    subst (λ (ground : Ground). IsByEntries ground c.args.entries.now c.in-Ok-history_base.start c.in-Ok.wanted.items) c.ground.view_is
    (record { fits = c.in-Ok.ensures.periods.0; left = c.in-Ok.ensures.periods.1; base = c.in-Ok-history_base.ensures })

pub returns-in-Err-history_base-clause-wanted : goal.returns-in-Err-history_base-clause-wanted
returns-in-Err-history_base-clause-wanted g c =
    subst (λ (ground : Ground). IsEntriesFault ground c.args.file c.args.entries.now c.fault_of.result) c.ground.view_is
    (inr (c.in-Ok.ensures.periods.0, c.in-Err-history_base.ensures.1, c.fault_of.ensures ∙ ap (λ (why : BaseFault). fault_of c.args.file why) c.in-Err-history_base.ensures.0))
