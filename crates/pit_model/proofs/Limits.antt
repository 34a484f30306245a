-- The bounds of all resources in all periods, as lines of limits are added.
use Rattle.std.proofs.Common.{◌≡◌, ℕ, ◌+◌, ◌*◌, ◌<◌, ◌⊎◌, inl, inr, ◌==◌, ◌&&◌, Bool, true, false, cond, ℤ, ◌≤ℤ◌, List, [], ◌∷◌, ◌++◌, map, length, length-set, Option, None, refl, ap, sym, ◌∙◌, subst, arith, get_or-set_same, get_or-set_other}
use Rattle.std.specs.Int.{int_min, int_max}
use Rattle.std.specs.List.{filter}
use Rattle.std.proofs.lemmas.List.{length-replicate}
use Rattle.std.proofs.lemmas.Nat.{mul-add-lt}
use Rattle.std.proofs.lemmas.Bool.{cond-true, cond-false}
use Rattle.std.proofs.lemmas.Bool.Decides.{eqb_tells}
use Rattle.pit_model.specs.Pit.{Pit, empty_pit, bounds_of, lower_of, upper_of, cell_of, tighter_bound, tighter_bounds}
use Rattle.pit_model.specs.Tightest.{IsTightest, LimitLine, is_for, lowers_for, uppers_for, with_line, AreTightest}
use Rattle.pit_model.proofs.Rows.{get_or-replicate_default}
use Rattle.pit_model.proofs.Cells.{cells_apart, same_resource}
use Rattle.pit_model.proofs.Tightest.{tightest-none, tightest-with, least, greatest}

-- what one more line gives a resource in a period
given-more : (side : LimitLine → Option ℤ) (test : LimitLine → Bool) (lines : List LimitLine) (line : LimitLine) → map side (filter test (lines ++ line ∷ [])) ≡ map side (filter test lines) ++ cond (test line) (side line ∷ []) []
given-more side test [] line = elim (test line) as (λ b. map side (cond b (line ∷ []) []) ≡ cond b (side line ∷ []) []) [ true ↦ refl | false ↦ refl ]
given-more side test (first ∷ more) line =
    elim (test first) as (λ b. map side (cond b (first ∷ filter test (more ++ line ∷ [])) (filter test (more ++ line ∷ []))) ≡ map side (cond b (first ∷ filter test more) (filter test more)) ++ cond (test line) (side line ∷ []) []) [
      | true ↦ ap (λ (given : List (Option ℤ)). side first ∷ given) (given-more side test more line)
      | false ↦ given-more side test more line
    ]

tells : (line : LimitLine) (r t : ℕ) → ((is_for r t line ≡ true) × ((line.resource ≡ r) × (line.period ≡ t))) ⊎ ((is_for r t line ≡ false) × ((line.resource ≡ r) × (line.period ≡ t) → ⊥))
tells line r t =
    elim (eqb_tells line.resource r) [
      | inl same ↦
          elim (eqb_tells line.period t) [
            | inl also ↦ inl (ap (λ (b : Bool). b && (line.period == t)) same.0 ∙ also.0, (same.1, also.1))
            | inr apart ↦ inr (ap (λ (b : Bool). b && (line.period == t)) same.0 ∙ apart.0, λ both. apart.1 both.1)
          ]
      | inr apart ↦ inr (ap (λ (b : Bool). b && (line.period == t)) apart.0, λ both. apart.1 both.0)
    ]

-- the bounds of one resource in one period with one more line
bounds-here : (pit : Pit) (line : LimitLine) → length pit.bounds ≡ pit.periods * pit.resources → line.resource < pit.resources → line.period < pit.periods
    → bounds_of (with_line pit line) line.resource line.period ≡ tighter_bounds (bounds_of pit line.resource line.period) line.lower line.upper
bounds-here pit line long lr lt =
    let within : cell_of pit line.resource line.period < length pit.bounds = omega (arith, long, mul-add-lt line.period pit.resources line.resource pit.periods lt lr) in
    get_or-set_same pit.bounds (cell_of pit line.resource line.period) (tighter_bounds (bounds_of pit line.resource line.period) line.lower line.upper) (None, None) within

bounds-there : (pit : Pit) (line : LimitLine) (r t : ℕ) → line.resource < pit.resources → r < pit.resources → ((line.resource ≡ r) × (line.period ≡ t) → ⊥) → bounds_of (with_line pit line) r t ≡ bounds_of pit r t
bounds-there pit line r t ll lr apart =
    get_or-set_other pit.bounds (cell_of pit line.resource line.period) (cell_of pit r t) (tighter_bounds (bounds_of pit line.resource line.period) line.lower line.upper) (None, None)
    (λ same.
    let period : t ≡ line.period = cells_apart pit.resources r line.resource t line.period lr ll same in
    apart (same_resource pit.resources r line.resource t line.period same period, sym period))

-- one side of them
side-with : (pit : Pit) (line : LimitLine) (r t : ℕ) (side : Option ℤ × Option ℤ → Option ℤ) (pick : ℤ → ℤ → ℤ) (last : Option ℤ) → length pit.bounds ≡ pit.periods * pit.resources → line.resource < pit.resources → line.period < pit.periods → r < pit.resources
    → ((bounds : Option ℤ × Option ℤ) → side (tighter_bounds bounds line.lower line.upper) ≡ tighter_bound pick (side bounds) last)
    → side (bounds_of (with_line pit line) r t) ≡ cond (is_for r t line) (tighter_bound pick (side (bounds_of pit r t)) last) (side (bounds_of pit r t))
side-with pit line r t side pick last long ll lt lr by =
    elim (tells line r t) [
      | inl here ↦
          subst (λ (q : ℕ). side (bounds_of (with_line pit line) q t) ≡ tighter_bound pick (side (bounds_of pit q t)) last) here.1.0
          (subst (λ (u : ℕ). side (bounds_of (with_line pit line) line.resource u) ≡ tighter_bound pick (side (bounds_of pit line.resource u)) last) here.1.1
          (ap side (bounds-here pit line long ll lt) ∙ by (bounds_of pit line.resource line.period)))
          ∙ sym (cond-true (is_for r t line) _ _ here.0)
      | inr there ↦ ap side (bounds-there pit line r t ll lr there.1) ∙ sym (cond-false (is_for r t line) _ _ there.0)
    ]

-- no line yet
pub tightest-empty : (blocks periods resources rate : ℕ) → AreTightest (empty_pit blocks periods resources rate) []
tightest-empty blocks periods resources rate = record {
  each = length-replicate (periods * resources) (None, None);
  lower = λ r t lr lt. subst (λ (bounds : Option ℤ × Option ℤ). IsTightest (λ x y. y ≤ℤ x) [] bounds.0) (sym (get_or-replicate_default (periods * resources) (t * resources + r) (None, None))) (tightest-none (λ x y. y ≤ℤ x));
  upper = λ r t lr lt. subst (λ (bounds : Option ℤ × Option ℤ). IsTightest (λ x y. x ≤ℤ y) [] bounds.1) (sym (get_or-replicate_default (periods * resources) (t * resources + r) (None, None))) (tightest-none (λ x y. x ≤ℤ y));
}

-- one more line
pub tightest-line : (pit : Pit) (lines : List LimitLine) (line : LimitLine) → line.resource < pit.resources → line.period < pit.periods → AreTightest pit lines → AreTightest (with_line pit line) (lines ++ line ∷ [])
tightest-line pit lines line ll lt was = record {
  each = length-set pit.bounds (cell_of pit line.resource line.period) (tighter_bounds (bounds_of pit line.resource line.period) line.lower line.upper) ∙ was.each;
  lower = λ r t lr ltt.
      tightest-with (λ x y. y ≤ℤ x) int_max greatest (lowers_for lines r t) (lowers_for (lines ++ line ∷ []) r t) (lower_of pit r t) (lower_of (with_line pit line) r t) line.lower (is_for r t line)
      (given-more (λ l. l.lower) (is_for r t) lines line) (side-with pit line r t (λ bounds. bounds.0) int_max line.lower was.each ll lt lr (λ bounds. refl)) (was.lower r t lr ltt);
  upper = λ r t lr ltt.
      tightest-with (λ x y. x ≤ℤ y) int_min least (uppers_for lines r t) (uppers_for (lines ++ line ∷ []) r t) (upper_of pit r t) (upper_of (with_line pit line) r t) line.upper (is_for r t line)
      (given-more (λ l. l.upper) (is_for r t) lines line) (side-with pit line r t (λ bounds. bounds.1) int_min line.upper was.each ll lt lr (λ bounds. refl)) (was.upper r t lr ltt);
}
