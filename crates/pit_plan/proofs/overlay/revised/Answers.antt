use Rattle.std.proofs.Common.{◌≡◌, ◌<◌, ◌++◌, ◌∷◌, [], ℕ, ℤ, List, Option, None, get_or, length, take, subst, sym, ap, ◌∙◌, arith}
use Rattle.std.specs.Prelude.{nat_eq}
use Rattle.std.specs.Map.{lookup}
use Rattle.std.proofs.lemmas.List.{take_more}
use Rattle.indexmap.specs.IndexMap.{insert_entry}
use Rattle.indexmap.proofs.CallerLemmas.{insert_entry-new}
use Rattle.pit_model.specs.Fitting.{revisions_of}
use Rattle.pit_model.specs.Pit.{cell_of}
use Rattle.pit_plan.specs.Inside.Limits.{by_cell}
use Rattle.pit_plan.proofs.Named.{absent-before}
use Rattle.pit_plan.proofs.ByCell.{once-cells, length-cells, cell-at, cell-known}
use Rattle.pit_plan.proofs.overlay.revised.Goals as goal

pub loop-resource-preserved : goal.loop-resource-preserved
loop-resource-preserved g c =
    let pit = c.args.pit.now in
    let cells = by_cell pit (revisions_of c.args.revises.now) in
    let k = c.loop-resource.resource-index in
    let within : k < length cells = omega (arith, c.loop-resource-test.true, length-cells pit c.args.revises.now) in
    let here = cell-at pit c.args.revises.now k (0, None) c.loop-resource-test.true in
    let once = once-cells pit (revisions_of c.args.revises.now) c.requires in
    let v = get_or c.args.revises.now k (0, 0, None) in
    let none = subst (λ (ps : List (ℕ × Option ℤ)). lookup (nat_eq (get_or cells k (0, None)).0) ps ≡ None) (sym c.loop-resource.invariant) (absent-before cells k (0, None) once within) in
    c.in_ok-insert.ensures.entries
    ∙ (ap (λ (n : ℕ). insert_entry nat_eq c.loop-resource.map.entries n v.2) c.cell.ensures.cell
    ∙ (insert_entry-new nat_eq c.loop-resource.map (cell_of pit v.0 v.1) v.2 (subst (λ (w : ℕ × Option ℤ). lookup (nat_eq w.0) c.loop-resource.map.entries ≡ None) here none)
    ∙ (ap (λ (ps : List (ℕ × Option ℤ)). ps ++ (cell_of pit v.0 v.1, v.2) ∷ []) c.loop-resource.invariant
    ∙ (ap (λ (w : ℕ × Option ℤ). take k cells ++ w ∷ []) (sym here) ∙ sym (take_more cells k (0, None) within)))))

pub cell-requires-clause-resource : goal.cell-requires-clause-resource
cell-requires-clause-resource g c = (cell-known c.args.pit.now c.args.revises.now c.loop-resource.resource-index c.loop-resource-test.true c.requires).0

pub cell-requires-clause-period : goal.cell-requires-clause-period
cell-requires-clause-period g c = (cell-known c.args.pit.now c.args.revises.now c.loop-resource.resource-index c.loop-resource-test.true c.requires).1
