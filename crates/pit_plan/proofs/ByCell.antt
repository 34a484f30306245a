-- Limits by their cells.
use Rattle.std.proofs.Common.{◌≡◌, ℕ, ◌*◌, ◌<◌, ℤ, List, [], ◌∷◌, length, get_or, Option, Some, None, refl, sym, ap, subst, ◌∙◌, arith, inl, inr}
use Rattle.std.specs.Prelude.{nat_eq}
use Rattle.std.specs.Map.{lookup}
use Rattle.std.specs.List.{AllByRecursion}
use Rattle.std.proofs.lemmas.Bool.{cond-true, cond-false, cases_Bool}
use Rattle.std.proofs.lemmas.Bool.Decides.{eqb_tells}
use Rattle.std.proofs.lemmas.Nat.{mul-add-lt}
use Rattle.std.proofs.lemmas.List.{get_or-map, length-map}
use Rattle.std.proofs.lemmas.List.Elements.{recursion_from_All}
use Rattle.pit_model.specs.Fitting.{RevisionsFit, pair_eq, revisions_of}
use Rattle.pit_model.proofs.CallerLemmas.{Decides-pair_eq}
use Rattle.pit_model.specs.Pit.{Pit, cell_of}
use Rattle.pit_model.proofs.CallerLemmas.{cells_apart, same_resource}
use Rattle.pit_plan.specs.Schedule.{Revisions}
use Rattle.pit_plan.specs.Inside.Limits.{by_cell}
use Rattle.pit_plan.proofs.Named.{Once}

pub cell-below : (pit : Pit) (r t : ℕ) → r < pit.resources → t < pit.periods → cell_of pit r t < pit.periods * pit.resources
cell-below pit r t lr lt = omega (arith, mul-add-lt t pit.resources r pit.periods lt lr)

-- two resources and periods of one cell are the same
pub same-pair : (pit : Pit) (r q t u : ℕ) → r < pit.resources → q < pit.resources → cell_of pit r t ≡ cell_of pit q u → ◌≡◌ {A = ℕ × ℕ} (r, t) (q, u)
same-pair pit r q t u lr lq e =
    let period : t ≡ u = cells_apart pit.resources r q t u lr lq e in
    ap (λ (x : ℕ). (x, t)) (sym (same_resource pit.resources r q t u e period)) ∙ ap (λ (y : ℕ). (q, y)) period

-- what revisions say of a cell is what they say of its resource and its period
pub lookup-cell : (pit : Pit) (r t : ℕ) (revisions : Revisions) → r < pit.resources → RevisionsFit pit.resources pit.periods revisions
    → lookup (nat_eq (cell_of pit r t)) (by_cell pit revisions) ≡ lookup (pair_eq (r, t)) revisions
lookup-cell pit r t revisions lr fit = by revisions (recursion_from_All (λ v. (v.0.0 < pit.resources) × (v.0.1 < pit.periods)) revisions fit.keys)
  where
    by : (vs : Revisions) → AllByRecursion (λ v. (v.0.0 < pit.resources) × (v.0.1 < pit.periods)) vs → lookup (nat_eq (cell_of pit r t)) (by_cell pit vs) ≡ lookup (pair_eq (r, t)) vs
    by [] each = refl
    by (v ∷ vs) each =
        elim (eqb_tells (cell_of pit r t) (cell_of pit v.0.0 v.0.1)) [
          | inl here ↦
              cond-true _ _ _ here.0
              ∙ sym (cond-true (pair_eq (r, t) v.0) (Some v.1) (lookup (pair_eq (r, t)) vs) ((Decides-pair_eq (r, t) v.0).1 (same-pair pit r v.0.0 t v.0.1 lr each.0.0 here.1)))
          | inr there ↦
              cond-false _ _ _ there.0
              ∙ (by vs each.1 ∙ sym (cond-false (pair_eq (r, t) v.0) (Some v.1) (lookup (pair_eq (r, t)) vs)
              (elim (cases_Bool (pair_eq (r, t) v.0)) [
                | inl same ↦ absurd (there.1 (ap (λ (p : ℕ × ℕ). cell_of pit p.0 p.1) ((Decides-pair_eq (r, t) v.0).0 same)))
                | inr apart ↦ apart
              ])))
        ]

-- no cell stands twice
pub once-cells : (pit : Pit) (revisions : Revisions) → RevisionsFit pit.resources pit.periods revisions → Once (by_cell pit revisions)
once-cells pit revisions fit = λ i j d lt l e.
    let within : j < length revisions = omega (arith, l, length-map {B = ℕ × Option ℤ} revisions (λ v. (cell_of pit v.0.0 v.0.1, v.1))) in
    let none : (ℕ × ℕ) × Option ℤ = ((0, 0), None) in
    let one = ap (λ (w : ℕ × Option ℤ). w.0) (get_or-map (λ v. (cell_of pit v.0.0 v.0.1, v.1)) revisions i none d (omega (arith, lt, within))) in
    let other = ap (λ (w : ℕ × Option ℤ). w.0) (get_or-map (λ v. (cell_of pit v.0.0 v.0.1, v.1)) revisions j none d within) in
    let lr = (fit.keys i none (omega (arith, lt, within))).0 in
    let lq = (fit.keys j none within).0 in
    fit.once i j none lt within (same-pair pit _ _ _ _ lr lq (sym one ∙ (e ∙ other)))

pub length-cells : (pit : Pit) (triples : List (ℕ × ℕ × Option ℤ)) → length (by_cell pit (revisions_of triples)) ≡ length triples
length-cells pit triples = length-map {B = ℕ × Option ℤ} (revisions_of triples) (λ v. (cell_of pit v.0.0 v.0.1, v.1)) ∙ length-map {B = (ℕ × ℕ) × Option ℤ} triples (λ v. ((v.0, v.1), v.2))

-- a revision by its cell
pub cell-at : (pit : Pit) (triples : List (ℕ × ℕ × Option ℤ)) (k : ℕ) (d : ℕ × Option ℤ) → k < length triples
    → get_or (by_cell pit (revisions_of triples)) k d ≡ (cell_of pit (get_or triples k (0, 0, None)).0 (get_or triples k (0, 0, None)).1, (get_or triples k (0, 0, None)).2)
cell-at pit triples k d within =
    get_or-map (λ v. (cell_of pit v.0.0 v.0.1, v.1)) (revisions_of triples) k ((0, 0), None) d (omega (arith, within, length-map {B = (ℕ × ℕ) × Option ℤ} triples (λ v. ((v.0, v.1), v.2))))
    ∙ ap (λ (v : (ℕ × ℕ) × Option ℤ). (cell_of pit v.0.0 v.0.1, v.1)) (get_or-map (λ v. ((v.0, v.1), v.2)) triples k (0, 0, None) ((0, 0), None) within)

-- and its resource and period are in range
pub cell-known : (pit : Pit) (triples : List (ℕ × ℕ × Option ℤ)) (k : ℕ) → k < length triples → RevisionsFit pit.resources pit.periods (revisions_of triples)
    → ((get_or triples k (0, 0, None)).0 < pit.resources) × ((get_or triples k (0, 0, None)).1 < pit.periods)
cell-known pit triples k within fit =
    let here = get_or-map (λ v. ((v.0, v.1), v.2)) triples k (0, 0, None) ((0, 0), None) within in
    let known = fit.keys k ((0, 0), None) (omega (arith, within, length-map {B = (ℕ × ℕ) × Option ℤ} triples (λ v. ((v.0, v.1), v.2)))) in
    subst (λ (v : (ℕ × ℕ) × Option ℤ). (v.0.0 < pit.resources) × (v.0.1 < pit.periods)) here known
