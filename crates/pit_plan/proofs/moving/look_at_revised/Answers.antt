use Rattle.std.proofs.Common.{◌≡◌, ◌<◌, ℕ, ℤ, List, Option, None, get_or, length, subst, sym, ap, ◌∙◌, arith}
use Rattle.std.proofs.lemmas.List.{take_all}
use Rattle.pit_model.specs.Fitting.{revisions_of}
use Rattle.pit_plan.specs.Inside.Limits.{by_cell}
use Rattle.pit_plan.specs.Inside.Totals.{cell_load}
use Rattle.pit_plan.specs.Inside.Touched.{LooksAt, SetsCell, overlaid_item}
use Rattle.pit_plan.proofs.ByCell.{length-cells, cell-at, cell-known, cell-below}
use Rattle.pit_plan.proofs.Touched.{looks-none, looks-more}
use Rattle.pit_plan.proofs.moving.look_at_revised.Goals as goal

pub loop-resource-init : goal.loop-resource-init
loop-resource-init g c = looks-none c.args.loads.now.kept.now c.args.loads.now.cells c.requires.in_range

pub loop-resource-preserved : goal.loop-resource-preserved
loop-resource-preserved g c =
    let pit = c.args.pit.now in
    let cells = by_cell pit (revisions_of c.args.revises.now) in
    let k = c.loop-resource.resource-index in
    let within : k < length cells = omega (arith, c.loop-resource-test.true, length-cells pit c.args.revises.now) in
    let here = cell-at pit c.args.revises.now k (0, None) c.loop-resource-test.true in
    let known = cell-known pit c.args.revises.now k c.loop-resource-test.true c.requires.fits in
    let cell : c.cell.result ≡ (get_or cells k (0, None)).0 = c.cell.ensures.cell ∙ sym (ap (λ (w : ℕ × Option ℤ). w.0) here) in
    looks-more cells k (0, None) c.args.loads.now.kept.now c.loop-resource.loads.kept.now c.look_at.new.loads.kept.now c.args.loads.now.cells c.loop-resource.loads.cells c.look_at.new.loads.cells
    within (omega (arith, ap (λ (w : ℕ × Option ℤ). w.0) here, cell-below pit _ _ known.0 known.1, c.requires.each)) c.loop-resource.invariant c.in_ok-look_at.ensures.stays
    (subst (λ (n : ℕ). SetsCell c.loop-resource.loads.cells n (overlaid_item (cell_load c.loop-resource.loads.kept.now) c.loop-resource.loads.cells n) c.look_at.new.loads.cells) cell c.in_ok-look_at.ensures.sets)

pub returns-clause-looks : goal.returns-clause-looks
returns-clause-looks g c =
    subst (λ (ps : List (ℕ × Option ℤ)). LooksAt ps c.args.loads.now.kept.now c.args.loads.now.cells c.loop-resource.loads.kept.now c.loop-resource.loads.cells)
    (take_all c.loop-resource.resource-index (by_cell c.args.pit.now (revisions_of c.args.revises.now)) (omega (arith, c.loop-resource-test.false, length-cells c.args.pit.now c.args.revises.now)))
    c.loop-resource.invariant

pub cell-requires-clause-resource : goal.cell-requires-clause-resource
cell-requires-clause-resource g c = (cell-known c.args.pit.now c.args.revises.now c.loop-resource.resource-index c.loop-resource-test.true c.requires.fits).0

pub cell-requires-clause-period : goal.cell-requires-clause-period
cell-requires-clause-period g c = (cell-known c.args.pit.now c.args.revises.now c.loop-resource.resource-index c.loop-resource-test.true c.requires.fits).1
