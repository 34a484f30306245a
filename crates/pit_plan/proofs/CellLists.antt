-- Cells in a list and a map behind it.
use Rattle.std.proofs.Common.{◌≡◌, ◌≢◌, ℕ, zero, suc, ◌-◌, ◌<◌, ◌≤◌, ℤ, pos, Bool, true, false, cond, List, [], ◌∷◌, ◌++◌, length, get_or, None, Some, nat_eq, eq-eqb, ne_eqb, refl, sym, ap, ◌∙◌, arith}
use Rattle.std.specs.Prelude.{slice_get, slice_set}
use Rattle.std.specs.Cmp.{nat_eq_equiv}
use Rattle.std.proofs.lemmas.List.{append-nil, get_or-append_right}
use Rattle.std.proofs.lemmas.Option.{slice_get-get_or, get_or_from_slice_get}
use Rattle.std.proofs.lemmas.Map.Entries.{lookup_from_place}
use Rattle.std.specs.List.{AllByRecursion}
use Rattle.std.specs.Map.{keys_of, lookup}
use Rattle.std.proofs.lemmas.Map.Keys.{IsDistinct-head, IsDistinct-tail, IsDistinct-cons}
use Rattle.indexmap.specs.IndexMap.{insert_entry}
use Rattle.pit_plan.specs.Inside.CellLists.{IsFirstOf, AreOnce}

later : (p : ℕ × ℤ) (ps : List (ℕ × ℤ)) (cell i : ℕ) → IsFirstOf (p ∷ ps) cell (suc i) → IsFirstOf ps cell i
later p ps cell i first = (omega (arith, first.0), first.1, λ j less. first.2 (suc j) (omega (arith, less)))

other : (p : ℕ × ℤ) (ps : List (ℕ × ℤ)) (cell i : ℕ) → IsFirstOf (p ∷ ps) cell (suc i) → nat_eq cell p.0 ≡ false
other p ps cell i first = ne_eqb cell p.0 (λ e. first.2 0 (omega arith) (sym e))

-- the list takes the load of a cell that it has
pub first-written : (few others : List (ℕ × ℤ)) (cell i : ℕ) (load : ℤ) → IsFirstOf few cell i → slice_set few i (cell, load) ++ others ≡ insert_entry nat_eq (few ++ others) cell load
first-written [] others cell i load first = absurd (omega (arith, first.0))
first-written (p ∷ ps) others cell zero load first =
    ap (λ (c : ℕ). (c, load) ∷ (ps ++ others)) (sym first.1) ∙ sym (ap (λ (b : Bool). cond b ((p.0, load) ∷ (ps ++ others)) (p ∷ insert_entry nat_eq (ps ++ others) cell load)) (eq-eqb cell p.0 (sym first.1)))
first-written (p ∷ ps) others cell (suc i) load first =
    ap (λ cs. p ∷ cs) (first-written ps others cell i load (later p ps cell i first))
    ∙ sym (ap (λ (b : Bool). cond b ((p.0, load) ∷ (ps ++ others)) (p ∷ insert_entry nat_eq (ps ++ others) cell load)) (other p ps cell i first))

-- and what is behind it that of any other
pub absent-written : (few others : List (ℕ × ℤ)) (cell : ℕ) (load : ℤ) → lookup (nat_eq cell) few ≡ None → few ++ insert_entry nat_eq others cell load ≡ insert_entry nat_eq (few ++ others) cell load
absent-written [] others cell load absent = refl
absent-written (p ∷ ps) others cell load absent = by (nat_eq cell p.0) (λ none. absent-written ps others cell load none) absent
  where
    by : (b : Bool) → (lookup (nat_eq cell) ps ≡ None → ps ++ insert_entry nat_eq others cell load ≡ insert_entry nat_eq (ps ++ others) cell load) → cond b (Some p.1) (lookup (nat_eq cell) ps) ≡ None
        → p ∷ (ps ++ insert_entry nat_eq others cell load) ≡ cond b ((p.0, load) ∷ (ps ++ others)) (p ∷ insert_entry nat_eq (ps ++ others) cell load)
    by true rest none = absurd cc
    by false rest none = ap (λ cs. p ∷ cs) (rest none)

pub absent-pushed : (few others : List (ℕ × ℤ)) (cell : ℕ) (load : ℤ) → others ≡ [] → lookup (nat_eq cell) few ≡ None → (few ++ (cell, load) ∷ []) ++ others ≡ insert_entry nat_eq (few ++ others) cell load
absent-pushed few others cell load empty absent =
    ap (λ (cs : List (ℕ × ℤ)). (few ++ (cell, load) ∷ []) ++ cs) empty ∙ append-nil (few ++ (cell, load) ∷ []) ∙ absent-written few [] cell load absent
    ∙ ap (λ (cs : List (ℕ × ℤ)). insert_entry nat_eq (few ++ cs) cell load) (sym empty)

pub first-found : (few others : List (ℕ × ℤ)) (cell i : ℕ) → IsFirstOf few cell i → lookup (nat_eq cell) (few ++ others) ≡ Some (get_or few i (0, pos 0)).1
first-found [] others cell i first = absurd (omega (arith, first.0))
first-found (p ∷ ps) others cell zero first = ap (λ (b : Bool). cond b (Some p.1) (lookup (nat_eq cell) (ps ++ others))) (eq-eqb cell p.0 (sym first.1))
first-found (p ∷ ps) others cell (suc i) first =
    ap (λ (b : Bool). cond b (Some p.1) (lookup (nat_eq cell) (ps ++ others))) (other p ps cell i first) ∙ first-found ps others cell i (later p ps cell i first)

pub absent-found : (few others : List (ℕ × ℤ)) (cell : ℕ) → lookup (nat_eq cell) few ≡ None → lookup (nat_eq cell) (few ++ others) ≡ lookup (nat_eq cell) others
absent-found [] others cell absent = refl
absent-found (p ∷ ps) others cell absent = by (nat_eq cell p.0) (λ none. absent-found ps others cell none) absent
  where
    by : (b : Bool) → (lookup (nat_eq cell) ps ≡ None → lookup (nat_eq cell) (ps ++ others) ≡ lookup (nat_eq cell) others) → cond b (Some p.1) (lookup (nat_eq cell) ps) ≡ None
        → cond b (Some p.1) (lookup (nat_eq cell) (ps ++ others)) ≡ lookup (nat_eq cell) others
    by true rest none = absurd cc
    by false rest none = rest none

all-written : (P : ℕ → Type 0) (cells : List (ℕ × ℤ)) (cell : ℕ) (load : ℤ) → AllByRecursion P (keys_of cells) → P cell → AllByRecursion P (keys_of (insert_entry nat_eq cells cell load))
all-written P [] cell load all here = (here, tt)
all-written P (p ∷ ps) cell load all here = by (nat_eq cell p.0) (all-written P ps cell load all.1 here)
  where
    by : (b : Bool) → AllByRecursion P (keys_of (insert_entry nat_eq ps cell load)) → AllByRecursion P (keys_of (cond b ((p.0, load) ∷ ps) (p ∷ insert_entry nat_eq ps cell load)))
    by true rest = all
    by false rest = (all.0, rest)

-- no cell stands twice once one is written
pub once-written : (cells : List (ℕ × ℤ)) (cell : ℕ) (load : ℤ) → AreOnce cells → AreOnce (insert_entry nat_eq cells cell load)
once-written [] cell load once = IsDistinct-cons nat_eq cell [] tt once
once-written (p ∷ ps) cell load once = by (nat_eq cell p.0) refl (once-written ps cell load (IsDistinct-tail nat_eq p.0 (keys_of ps) once))
  where
    by : (b : Bool) → nat_eq cell p.0 ≡ b → AreOnce (insert_entry nat_eq ps cell load) → AreOnce (cond b ((p.0, load) ∷ ps) (p ∷ insert_entry nat_eq ps cell load))
    by true is rest = once
    by false is rest =
        IsDistinct-cons nat_eq p.0 (keys_of (insert_entry nat_eq ps cell load))
        (all-written (λ y. nat_eq p.0 y ≡ false) ps cell load (IsDistinct-head nat_eq p.0 (keys_of ps) once) (ne_eqb p.0 cell (λ e. absurd (true-false (sym (eq-eqb cell p.0 (sym e)) ∙ is)))))
        rest
      where
        true-false : true ≡ false → ⊥
        true-false e = cc

-- a cell that stands at no place is not found
pub not-found : (few : List (ℕ × ℤ)) (cell n : ℕ) → length few ≤ n → ((j : ℕ) → j < n → (get_or few j (0, pos 0)).0 ≢ cell) → lookup (nat_eq cell) few ≡ None
not-found [] cell n short none = refl
not-found (p ∷ ps) cell zero short none = absurd (omega (arith, short))
not-found (p ∷ ps) cell (suc n) short none =
    ap (λ (b : Bool). cond b (Some p.1) (lookup (nat_eq cell) ps)) (ne_eqb cell p.0 (λ e. none 0 (omega arith) (sym e))) ∙ not-found ps cell n (omega (arith, short)) (λ j less. none (suc j) (omega (arith, less)))

pub nothing : (cells : List (ℕ × ℤ)) → length cells ≡ 0 → cells ≡ []
nothing [] none = refl
nothing (p ∷ ps) none = absurd (omega (arith, none))

-- what stands at a place is what is found
pub found-at : (cells : List (ℕ × ℤ)) (i : ℕ) (d : ℕ × ℤ) → AreOnce cells → i < length cells → lookup (nat_eq (get_or cells i d).0) cells ≡ Some (get_or cells i d).1
found-at cells i d once within = lookup_from_place nat_eq_equiv cells i (get_or cells i d).0 (get_or cells i d).1 once (slice_get-get_or cells i d within)

-- what stands behind the list stands in the map
pub behind-list : (few others : List (ℕ × ℤ)) (i n : ℕ) (item : ℕ × ℤ) → n ≡ length few → n ≤ i → slice_get others (i - n) ≡ Some item → get_or (few ++ others) i (0, pos 0) ≡ item
behind-list few others i n item count past there = get_or-append_right few others n i (0, pos 0) (sym count) past ∙ get_or_from_slice_get others (i - n) item (0, pos 0) there
