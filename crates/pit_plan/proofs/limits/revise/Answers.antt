use Rattle.std.proofs.Common.{◌<◌, ℕ, ℤ, List, Option, None, get_or, length, take, sym, ap, ◌∙◌, arith}
use Rattle.std.specs.Prelude.{slice_set}
use Rattle.std.proofs.lemmas.List.{take_all}
use Rattle.pit_model.specs.Fitting.{revisions_of}
use Rattle.pit_plan.specs.Inside.Plan.{with_writes}
use Rattle.pit_plan.specs.Inside.Limits.{by_cell}
use Rattle.pit_plan.proofs.ByCell.{length-cells, cell-at, cell-known}
use Rattle.pit_plan.proofs.Slots.{with_writes-none, with_writes-more, length-with_writes}
use Rattle.pit_plan.proofs.limits.revise.Goals as goal

pub loop-resource-init : goal.loop-resource-init
loop-resource-init g c = sym (with_writes-none (λ v. v.1) c.args.limits.now.items)

pub loop-resource-preserved : goal.loop-resource-preserved
loop-resource-preserved g c =
    let pit = c.args.pit.now in
    let cells = by_cell pit (revisions_of c.args.revises.now) in
    let k = c.loop-resource.resource-index in
    let within : k < length cells = omega (arith, c.loop-resource-test.true, length-cells pit c.args.revises.now) in
    let here = cell-at pit c.args.revises.now k (0, None) c.loop-resource-test.true in
    ap (λ (n : ℕ). slice_set c.loop-resource.limits.items n (get_or c.args.revises.now k (0, 0, None)).2) c.cell.ensures.cell
    ∙ (ap (λ (w : ℕ × Option ℤ). slice_set c.loop-resource.limits.items w.0 w.1) (sym here)
    ∙ with_writes-more (λ v. v.1) c.args.limits.now.items c.loop-resource.limits.items cells k (0, None) within c.loop-resource.invariant)

pub returns : goal.returns
returns g c =
    c.loop-resource.invariant
    ∙ ap (λ (ps : List (ℕ × Option ℤ)). with_writes (λ v. v.1) c.args.limits.now.items ps)
    (take_all c.loop-resource.resource-index (by_cell c.args.pit.now (revisions_of c.args.revises.now)) (omega (arith, c.loop-resource-test.false, length-cells c.args.pit.now c.args.revises.now)))

pub cell-requires-clause-resource : goal.cell-requires-clause-resource
cell-requires-clause-resource g c = (cell-known c.args.pit.now c.args.revises.now c.loop-resource.resource-index c.loop-resource-test.true c.requires.fits).0

pub cell-requires-clause-period : goal.cell-requires-clause-period
cell-requires-clause-period g c = (cell-known c.args.pit.now c.args.revises.now c.loop-resource.resource-index c.loop-resource-test.true c.requires.fits).1

pub index_mut-requires : goal.index_mut-requires
index_mut-requires g c =
    let same = ap length c.loop-resource.invariant ∙ length-with_writes (λ v. v.1) c.args.limits.now.items (take c.loop-resource.resource-index (by_cell c.args.pit.now (revisions_of c.args.revises.now))) in
    omega (arith, c.cell.ensures.within, same, c.requires.len, c.loop-resource.limits.ok.0)
