use Rattle.std.proofs.Common.{◌∷◌, sym, subst, refl}
use Rattle.pit_step.specs.Devices.{reading_of, readings_by}
use Rattle.pit_step.specs.Steps.{through}
use Rattle.pit_merge.specs.Edits.{edit_step}
use Rattle.pit_merge.proofs.Taken.{first-fails}
use Rattle.pit_merge.proofs.merger.Merger.+take_each.Goals as goal

pub returns-in-Err-clause-taken : goal.returns-in-Err-clause-taken
returns-in-Err-clause-taken g n c =
    subst (λ olds. (through (edit_step c.args.options) c.args.number
    (readings_by (λ old new. reading_of (g.E.Source.remaining old) (g.E.Source.remaining new) (g.E.Source.has_failed new)) olds (c.take.new.edit ∷ c.in-Some.rest.now))).Fails c.args.self c.in-Err.fault)
    (sym c.in-Some.ensures.cases.0)
    (first-fails g.E.Source.remaining g.E.Source.has_failed c.args.options c.args.number c.in-Some.first.now c.take.new.edit c.in-Some.rest.now c.in-Some.rest.now c.args.self c.in-Err.fault refl c.in-Err.ensures)
