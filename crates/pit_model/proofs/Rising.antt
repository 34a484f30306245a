-- A list of rising numbers is what a range has of its members.
use Rattle.std.proofs.Common.{◌≡◌, ℕ, zero, suc, ◌+◌, ◌<◌, ◌≤◌, Bool, true, false, cond, not, ◌&&◌, ◌||◌, eqb, List, [], ◌∷◌, get_or, refl, sym, ap, subst, ◌∙◌, ⊎_elim, arith, subst₂, eq-eqb, ne_eqb, eqb-true, nat_cmp}
use Rattle.std.specs.List.{All, AllPairs, filter, list_any, range_with_len, dedup, dedup_from}
use Rattle.std.specs.List.Sorted.{IsSorted, IsPermutation, IsStrictlyIncreasing}
use Rattle.std.proofs.lemmas.Bool.{cases_Bool, cases_eq}
use Rattle.std.proofs.lemmas.List.Elements.{All-filter}
use Rattle.std.specs.List.Retain.{IsFiltered, DiffersFromLast}
use Rattle.std.proofs.lemmas.List.Filters.{All-dedup, dedup_is}
use Rattle.std.proofs.lemmas.List.Kept.{AllPairs-from_increasing}
use Rattle.std.proofs.lemmas.List.Sorted.{list_any-IsPermutation, All-permutation}
use Rattle.std.proofs.lemmas.Map.Keys.{IsStrictlyIncreasing-dedup}
use Rattle.pit_model.specs.Pit.{preds_from}

-- whether a is an element
abbrev pub is_in : ℕ → List ℕ → Bool
is_in a xs = list_any (λ x. eqb x a) xs

-- each is below the next, and lies from low up to high
abbrev pub Rises : ℕ → ℕ → List ℕ → Type 0
Rises low high [] = Unit {0}
Rises low high (x ∷ xs) = (low ≤ x) × (x < high) × Rises (x + 1) high xs

pub Rises-from_increasing : (low high : ℕ) (xs : List ℕ) → IsStrictlyIncreasing xs → All (λ x. low ≤ x) xs → All (λ x. x < high) xs → Rises low high xs
Rises-from_increasing low high xs up above below = pairs low xs (AllPairs-from_increasing xs up) above below
  where
    pairs : (from : ℕ) (ys : List ℕ) → AllPairs (λ x y. x < y) ys → All (λ x. from ≤ x) ys → All (λ x. x < high) ys → Rises from high ys
    pairs from [] ordered least most = tt
    pairs from (y ∷ ys) ordered least most = (
      least 0 y (omega arith),
      most 0 y (omega arith),
      pairs (y + 1) ys (λ i j d less within. ordered (suc i) (suc j) d (omega arith) (omega arith)) (λ k d lt. let more : y < get_or ys k d = ordered 0 (suc k) d (omega arith) (omega arith) in omega arith) (λ k d lt. most (suc k) d (omega arith)),
    )

-- none is below low
pub is_in-below : (a low high : ℕ) (xs : List ℕ) → Rises low high xs → a < low → is_in a xs ≡ false
is_in-below a low high [] up less = refl
is_in-below a low high (x ∷ xs) up less = rw (ne_eqb x a (λ same. omega (arith, up.0)), is_in-below a (x + 1) high xs up.2 (omega (arith, up.0))) refl

-- what a range has of the members of a rising list that lies in it
pub filter-Rises : (p : ℕ → Bool) (low n : ℕ) (xs : List ℕ) → Rises low (low + n) xs → ((a : ℕ) → low ≤ a → p a ≡ is_in a xs) → filter p (range_with_len low n) ≡ xs
filter-Rises p low zero [] up same = refl
filter-Rises p low zero (x ∷ xs) up same = absurd (omega (arith, up.0, up.1))
filter-Rises p low (suc n) [] up same = rw (same low (omega arith)) (filter-Rises p (low + 1) n [] tt (λ a le. same a (omega arith)))
filter-Rises p low (suc n) (x ∷ xs) up same = ⊎_elim
    (λ e.
    let here : p low ≡ true = same low (omega arith) ∙ ap (λ b. b || is_in low xs) (eq-eqb x low e) in
    let next : Rises (low + 1) (low + 1 + n) xs = subst₂ (λ m h. Rises m h xs) {x = x + 1} {y = low + 1} {u = low + suc n} {v = low + 1 + n} (omega arith) (omega arith) up.2 in
    let agree : (a : ℕ) → low + 1 ≤ a → p a ≡ is_in a xs = λ a le. same a (omega arith) ∙ ap (λ b. b || is_in a xs) (ne_eqb x a (λ f. omega arith)) in
    rw (here, filter-Rises p (low + 1) n xs next agree, e) refl)
    (λ e.
    let here : p low ≡ false = same low (omega arith) ∙ is_in-below low (low + 1) (low + suc n) (x ∷ xs) (omega (arith, up.0), up.1, up.2) (omega arith) in
    let next : Rises (low + 1) (low + 1 + n) (x ∷ xs) = subst (λ h. Rises (low + 1) h (x ∷ xs)) {x = low + suc n} {y = low + 1 + n} (omega arith) (omega (arith, up.0), up.1, up.2) in
    rw here (filter-Rises p (low + 1) n (x ∷ xs) next (λ a le. same a (omega arith))))
    (cases_eq x low)

-- a dedup keeps each member
is_in-dedup_from : (a k : ℕ) (xs : List ℕ) → is_in a (dedup_from eqb k xs) ≡ is_in a (k ∷ xs)
is_in-dedup_from a k [] = refl
is_in-dedup_from a k (x ∷ xs) = ⊎_elim
    (λ same. let e : x ≡ k = eqb-true x k same in
    ap (λ b. list_any (λ y. eqb y a) (cond b (dedup_from eqb k xs) (k ∷ dedup_from eqb x xs))) same ∙ is_in-dedup_from a k xs ∙ twice (eqb k a) (eqb x a) (ap (λ n. eqb n a) (sym e)) (is_in a xs))
    (λ other. ap (λ b. list_any (λ y. eqb y a) (cond b (dedup_from eqb k xs) (k ∷ dedup_from eqb x xs))) other ∙ ap (λ b. eqb k a || b) (is_in-dedup_from a x xs))
    (cases_Bool (eqb x k))
  where
    twice : (b c : Bool) → b ≡ c → (d : Bool) → b || d ≡ b || (c || d)
    twice true c e d = refl
    twice false c e d = ap (λ f. f || d) e

pub is_in-dedup : (a : ℕ) (xs : List ℕ) → is_in a (dedup eqb xs) ≡ is_in a xs
is_in-dedup a [] = refl
is_in-dedup a (x ∷ xs) = is_in-dedup_from a x xs

-- of a filter's members each passes
pub is_in-filter : (q : ℕ → Bool) (a : ℕ) (xs : List ℕ) → is_in a (filter q xs) ≡ q a && is_in a xs
is_in-filter q a [] = none (q a)
  where
    none : (b : Bool) → false ≡ b && false
    none true = refl
    none false = refl
is_in-filter q a (x ∷ xs) = first (q x) ∙ kept (q x) (q a) (eqb x a) (is_in a (filter q xs)) (is_in a xs) (is_in-filter q a xs) (λ same. ap q (eqb-true x a same))
  where
    first : (b : Bool) → is_in a (cond b (x ∷ filter q xs) (filter q xs)) ≡ cond b (eqb x a || is_in a (filter q xs)) (is_in a (filter q xs))
    first true = refl
    first false = refl

    kept : (b c e f g : Bool) → f ≡ c && g → (e ≡ true → b ≡ c) → cond b (e || f) f ≡ c && (e || g)
    kept true c true f g same test = ap (λ k. k && true) (test refl)
    kept true c false f g same test = same
    kept false c true f g same test = same ∙ ap (λ k. k && g) (sym (test refl)) ∙ ap (λ k. k && true) (test refl)
    kept false c false f g same test = same

-- what is left of a list after a filter, a sort and a dedup
pub preds_from-dedup : (blocks b : ℕ) (listed kept sorted row : List ℕ) → All (λ a. a < blocks) listed → kept ≡ filter (λ a. not (eqb a b)) listed → IsPermutation kept sorted → IsSorted nat_cmp sorted → IsFiltered (DiffersFromLast eqb) [] sorted row → row ≡ preds_from blocks b listed
unfolding preds_from
preds_from-dedup blocks b listed kept sorted row bound filtered moved up cut =
    let once : row ≡ dedup eqb sorted = dedup_is eqb sorted row cut in
    let kept_bound : All (λ a. a < blocks) kept = subst (All (λ a. a < blocks)) (sym filtered) (All-filter (λ a. not (eqb a b)) (λ a. a < blocks) listed bound) in
    let below : All (λ a. a < blocks) row = subst (All (λ a. a < blocks)) (sym once) (All-dedup eqb (λ a. a < blocks) sorted (All-permutation (λ a. a < blocks) kept sorted moved kept_bound)) in
    let rises : Rises 0 (0 + blocks) row = subst (λ n. Rises 0 n row) {x = blocks} {y = 0 + blocks} (omega arith) (Rises-from_increasing 0 blocks row (subst IsStrictlyIncreasing (sym once) (IsStrictlyIncreasing-dedup sorted up)) (λ k d lt. omega arith) below) in
    let member : (a : ℕ) → not (eqb a b) && is_in a listed ≡ is_in a row = λ a.
    sym (ap (is_in a) once ∙ is_in-dedup a sorted ∙ sym (list_any-IsPermutation (λ x. eqb x a) kept sorted moved) ∙ ap (is_in a) filtered ∙ is_in-filter (λ x. not (eqb x b)) a listed) in
    sym (filter-Rises (λ a. not (eqb a b) && is_in a listed) 0 blocks row rises (λ a le. member a))

-- a rising list without b is as it is wanted
pub preds_from-rising : (blocks b : ℕ) (listed : List ℕ) → All (λ a. a < blocks) listed → is_in b listed ≡ false → IsStrictlyIncreasing listed → preds_from blocks b listed ≡ listed
unfolding preds_from
preds_from-rising blocks b listed bound absent up =
    let rises : Rises 0 (0 + blocks) listed = subst (λ n. Rises 0 n listed) {x = blocks} {y = 0 + blocks} (omega arith) (Rises-from_increasing 0 blocks listed up (λ k d lt. omega arith) bound) in
    filter-Rises (λ a. not (eqb a b) && is_in a listed) 0 blocks listed rises (λ a le. ⊎_elim
    (λ same. ap (λ t. not t && is_in a listed) (eq-eqb a b same) ∙ sym (ap (λ n. is_in n listed) same ∙ absent))
    (λ other. ap (λ t. not t && is_in a listed) (ne_eqb a b other))
    (cases_eq a b))
