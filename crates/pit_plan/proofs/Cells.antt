-- Cells of the loads.
use Rattle.std.proofs.Common.{◌≡◌, ℕ, zero, suc, ◌+◌, ◌*◌, ◌/◌, ◌%◌, ◌<◌, Bool, true, false, ℤ, pos, ◌+ℤ◌, FitsSigned, List, length, take, get_or, Option, refl, sym, ap, subst, ◌∙◌, arith, inl, inr}
use Rattle.std.specs.Prelude.{nat_eq, slice_set, unwrap_or}
use Rattle.std.specs.Int.{w128}
use Rattle.std.proofs.Math.Nat.{mul-le-mul_right, mul-zero, mod-lt}
use Rattle.std.proofs.lemmas.Nat.{div-add-mod'}
use Rattle.std.proofs.lemmas.Int.{ints}
use Rattle.std.proofs.lemmas.List.{get_or-set_same, get_or-set_other}
use Rattle.std.proofs.lemmas.Bool.{cond-true, cond-false}
use Rattle.std.proofs.lemmas.Bool.Decides.{leb_tells, eqb_tells}
use Rattle.pit_model.specs.Pit.{Pit, coefs_of, cell_of}
use Rattle.pit_model.proofs.CallerLemmas.{cells_apart, same_resource}
use Rattle.pit_plan.specs.Schedule.{coef_in, coef_of}
use Rattle.pit_plan.specs.Inside.Totals.{cell_load, signed_coef, Moves, MovesOne, Raises}
use Rattle.pit_plan.specs.Limits.{at_cell}
use Rattle.pit_plan.proofs.Named.{Once, absent-before, lookup-at, overlaid_item-more, same-eq, other-eq}

some-resource : (periods resources cell : ℕ) → cell < periods * resources → 0 < resources
some-resource periods zero cell within = absurd (omega (arith, within, mul-zero periods))
some-resource periods (suc n) cell within = omega arith

-- each cell is that of a resource in a period
pub pair-known : (pit : Pit) (cell : ℕ) → cell < pit.periods * pit.resources
    → (cell % pit.resources < pit.resources) × (cell / pit.resources < pit.periods) × (cell_of pit (cell % pit.resources) (cell / pit.resources) ≡ cell)
pair-known pit cell within =
    let whole : cell / pit.resources * pit.resources + cell % pit.resources ≡ cell = div-add-mod' cell pit.resources in
    let period : cell / pit.resources < pit.periods =
    elim (leb_tells pit.periods (cell / pit.resources)) [ inl past ↦ absurd (omega (arith, mul-le-mul_right pit.resources past.1, whole, within)) | inr below ↦ below.1 ] in
    (mod-lt cell (some-resource pit.periods pit.resources cell within), period, whole)

-- one cell of a list is set
pub raises-set : (loads : List ℤ) (cell : ℕ) (by : ℤ) → cell < length loads → Raises (cell_load loads) cell by (cell_load (slice_set loads cell (cell_load loads cell +ℤ by)))
raises-set loads cell by within k =
    elim (eqb_tells cell k) [
      | inl here ↦
          subst (λ (n : ℕ). cell_load (slice_set loads cell (cell_load loads cell +ℤ by)) n ≡ cell_load loads cell +ℤ by) here.1 (get_or-set_same loads cell (cell_load loads cell +ℤ by) (pos 0) within)
          ∙ sym (cond-true _ _ _ here.0)
      | inr there ↦ get_or-set_other loads cell k (cell_load loads cell +ℤ by) (pos 0) (λ e. there.1 (sym e)) ∙ sym (cond-false _ _ _ there.0)
    ]

-- the load of one cell is that of one resource in one period
pub moves-one : (pit : Pit) (old new : ℕ → ℤ) (r t : ℕ) (by : ℤ) → r < pit.resources → Raises old (cell_of pit r t) by new → MovesOne pit.resources (at_cell pit old) r t by (at_cell pit new)
moves-one pit old new r t by lr raises = record {
  moved = raises (cell_of pit r t) ∙ cond-true _ _ _ (same-eq (cell_of pit r t) (cell_of pit r t) refl);
  others = λ q u lq apart.
      raises (cell_of pit q u) ∙ cond-false _ _ _ (other-eq (cell_of pit r t) (cell_of pit q u)
      (λ e. let same = cells_apart pit.resources r q t u lr lq e in apart (same_resource pit.resources r q t u e same, sym same)));
}

-- the first pairs of a row say nothing of the next one's resource
pub none-before : (row : List (ℕ × ℤ)) (k : ℕ) (d : ℕ × ℤ) → Once row → k < length row → coef_in (take k row) (get_or row k d).0 ≡ pos 0
none-before row k d once within = ap (λ (x : Option ℤ). unwrap_or x (pos 0)) (absent-before row k d once within)

nothing : (up : Bool) (x : ℤ) → x +ℤ signed_coef up (pos 0) ≡ x
nothing up x = elim up as (λ (b : Bool). x +ℤ signed_coef b (pos 0) ≡ x) [ true ↦ omega (arith, ints) | false ↦ omega (arith, ints) ]

-- one more pair of the row
pub moves-more : (pit : Pit) (old : ℕ → ℕ → ℤ) (t : ℕ) (up : Bool) (row : List (ℕ × ℤ)) (k : ℕ) (d : ℕ × ℤ) (now new : ℕ → ℕ → ℤ) → Once row → k < length row → (get_or row k d).0 < pit.resources
    → Moves pit old t (λ r. signed_coef up (coef_in (take k row) r)) now → MovesOne pit.resources now (get_or row k d).0 t (signed_coef up (get_or row k d).1) new
    → Moves pit old t (λ r. signed_coef up (coef_in (take (k + 1) row) r)) new
moves-more pit old t up row k d now new once within lr moves one = record {
  moved = λ r lq.
      let more = overlaid_item-more (λ _. pos 0) row k r d once within in
      elim (eqb_tells r (get_or row k d).0) [
        | inl here ↦
            let before = none-before row k d once within in
            let coef = more ∙ cond-true (nat_eq r (get_or row k d).0) (get_or row k d).1 (coef_in (take k row) r) here.0 in
            let now_is = moves.moved (get_or row k d).0 lr in
            rw (coef, here.1) (one.moved ∙ ap (λ (x : ℤ). x +ℤ signed_coef up (get_or row k d).1) (now_is ∙ (ap (λ (x : ℤ). old (get_or row k d).0 t +ℤ signed_coef up x) before ∙ nothing up (old (get_or row k d).0 t))))
        | inr there ↦
            let coef = more ∙ cond-false (nat_eq r (get_or row k d).0) (get_or row k d).1 (coef_in (take k row) r) there.0 in
            rw (coef) (one.others r t lq (λ e. there.1 e.0) ∙ moves.moved r lq)
      ];
  others = λ r u lq apart. one.others r u lq (λ e. apart e.1) ∙ moves.others r u lq apart;
}

-- so there is room for it where there is room for the whole row
pub room-more : (pit : Pit) (old now : ℕ → ℕ → ℤ) (b t : ℕ) (up : Bool) (k : ℕ) (d : ℕ × ℤ) → Once (coefs_of pit b) → k < length (coefs_of pit b) → (get_or (coefs_of pit b) k d).0 < pit.resources
    → ((r : ℕ) → r < pit.resources → FitsSigned w128 (old r t +ℤ signed_coef up (coef_of pit b r))) → Moves pit old t (λ r. signed_coef up (coef_in (take k (coefs_of pit b)) r)) now
    → FitsSigned w128 (now (get_or (coefs_of pit b) k d).0 t +ℤ signed_coef up (get_or (coefs_of pit b) k d).1)
room-more pit old now b t up k d once within lr room moves =
    let row = coefs_of pit b in
    let r = (get_or (coefs_of pit b) k d).0 in
    let whole : coef_of pit b r ≡ (get_or row k d).1 = ap (λ (x : Option ℤ). unwrap_or x (pos 0)) (lookup-at row k d once within) in
    let now_is : now r t ≡ old r t = moves.moved r lr ∙ (ap (λ (x : ℤ). old r t +ℤ signed_coef up x) (none-before row k d once within) ∙ nothing up (old r t)) in
    subst (λ (x : ℤ). FitsSigned w128 (x +ℤ signed_coef up (get_or row k d).1)) (sym now_is) (subst (λ (x : ℤ). FitsSigned w128 (old r t +ℤ signed_coef up x)) whole (room r lr))
