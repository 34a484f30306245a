use Rattle.std.proofs.Common.{sym, ap, ◌∙◌}
use Rattle.std.specs.Prelude.{take}
use Rattle.pit_merge.specs.Edits.{Merged}
use Rattle.pit_merge.proofs.merger.Merger.ground.Goals as goal

pub returns-clause-front : goal.returns-clause-front
returns-clause-front g c = (
  c.self.inside.ours,
  ap (λ (m : Merged). m.ours) (sym c.self.view_is) ∙ ap (λ (m : Merged). take c.self.inside.ours m.merging.desk.history) c.self.view_is,
)
