use Rattle.std.proofs.Common.{ℤ, ◌+ℤ◌, ◌≡◌, refl, subst, ◌∙◌, rules}
use Rattle.std.specs.Int.{w128}
use Rattle.std.proofs.lemmas.Int.{to_z-of_z}
use Rattle.std.proofs.lemmas.Result.{on_ok_weaker}
use Rattle.pit_plan.specs.Inside.Totals.{cell_load}
use Rattle.pit_plan.specs.Inside.Touched.{overlaid_item, SetsCell}
use Rattle.pit_plan.proofs.Touched.{raises-cell, named-set}
use Rattle.pit_plan.proofs.moving.MovedLoads.add.Goals as goal

pub returns-clause-sound : goal.returns-clause-sound
returns-clause-sound g c =
    on_ok_weaker c.set.result (λ sets. named-set c.args.self.now.cells c.set.new.self c.args.cell _ _ sets c.requires.within c.requires.sound)
    c.set.ensures

pub returns-clause-raises : goal.returns-clause-raises
returns-clause-raises g c =
    let cells = c.args.self.now.cells in
    let kept = cell_load c.args.self.now.kept.now in
    let sum : c.plus-load.result ≡ overlaid_item kept cells c.args.cell +ℤ c.args.term =
    c.plus-load.ensures ∙ rw (to_z-of_z w128 c.load_of.result (search rules), to_z-of_z w128 c.args.term (search rules), c.load_of.ensures) refl in
    on_ok_weaker c.set.result (λ sets. raises-cell kept cells c.set.new.self c.args.cell c.args.term
    (subst (λ (load : ℤ). SetsCell cells c.args.cell load c.set.new.self) (to_z-of_z w128 c.plus-load.result (search rules) ∙ sum) sets)) c.set.ensures
