-- The first item of lists that stand one behind the other.
use Rattle.std.proofs.Common.{◌≡◌, ℕ, zero, suc, ◌+◌, ◌<◌, ◌≤◌, Bool, true, false, List, [], ◌∷◌, ◌++◌, length, get_or, Option, Some, None, refl, ap, ◌∙◌, arith, inl, inr, if◌then◌else◌}
use Rattle.std.specs.Prelude.{flat_map}
use Rattle.std.specs.List.{range_with_len}
use Rattle.std.proofs.lemmas.Bool.Decides.{eqb_tells}
use Rattle.pit_all.specs.Breaches.{first_of}

-- ---- of a list for each number

-- none of these lists has an item; or this is the first item of the first one that has
abbrev pub IsFirstRow : {X : Type 0} → (ℕ → List X) → ℕ → ℕ → Option X → Type 0
IsFirstRow rows a n None = (k : ℕ) → a ≤ k → k < a + n → rows k ≡ []
IsFirstRow rows a n (Some x) = (k : ℕ) × (a ≤ k) × (k < a + n) × (first_of (rows k) ≡ Some x) × ((j : ℕ) → a ≤ j → j < k → rows j ≡ [])

later-row : {X : Type 0} (rows : ℕ → List X) (a n : ℕ) (found : Option X) → rows a ≡ [] → IsFirstRow rows (a + 1) n found → IsFirstRow rows a (suc n) found
later-row rows a n None here none = λ k low high.
    elim (eqb_tells k a) [ inl same ↦ ap rows same.1 ∙ here | inr other ↦ none k (omega (arith, low, other.1)) (omega (arith, high)) ]
later-row rows a n (Some x) here some = (
  some.0,
  omega (arith, some.1),
  omega (arith, some.2),
  some.3,
  λ j low less. elim (eqb_tells j a) [ inl same ↦ ap rows same.1 ∙ here | inr other ↦ some.4 j (omega (arith, low, other.1)) less ],
)

pub first-row : {X : Type 0} (rows : ℕ → List X) (a n : ℕ) → IsFirstRow rows a n (first_of (flat_map rows (range_with_len a n)))
first-row rows a zero = λ k low high. absurd (omega (arith, low, high))
first-row {X} rows a (suc n) = by (rows a) refl (first-row rows (a + 1) n)
  where
    by : (row : List X) → rows a ≡ row → IsFirstRow rows (a + 1) n (first_of (flat_map rows (range_with_len (a + 1) n)))
        → IsFirstRow rows a (suc n) (first_of (row ++ flat_map rows (range_with_len (a + 1) n)))
    by [] is later = later-row rows a n (first_of (flat_map rows (range_with_len (a + 1) n))) is later
    by (x ∷ xs) is later = (a, omega arith, omega arith, ap first_of is, λ j low less. absurd (omega (arith, low, less)))

-- ---- of an item for each number of a list that fails a test

abbrev pub item_at : {X : Type 0} → (ℕ → Bool) → (ℕ → X) → ℕ → List X
item_at test item a = if test a then [] else item a ∷ []

-- all pass; or this is the item of the first one that fails
abbrev pub IsFirstFailing : {X : Type 0} → (ℕ → Bool) → (ℕ → X) → List ℕ → Option X → Type 0
IsFirstFailing test item xs None = (k : ℕ) → k < length xs → test (get_or xs k 0) ≡ true
IsFirstFailing test item xs (Some y) =
    (j : ℕ) × (j < length xs) × (y ≡ item (get_or xs j 0)) × (test (get_or xs j 0) ≡ false) × ((k : ℕ) → k < j → test (get_or xs k 0) ≡ true)

later-failing : {X : Type 0} (test : ℕ → Bool) (item : ℕ → X) (x : ℕ) (xs : List ℕ) (found : Option X) → test x ≡ true → IsFirstFailing test item xs found → IsFirstFailing test item (x ∷ xs) found
later-failing {X} test item x xs None passes none = each
  where
    each : (k : ℕ) → k < length (x ∷ xs) → test (get_or (x ∷ xs) k 0) ≡ true
    each zero within = passes
    each (suc k) within = none k (omega (arith, within))
later-failing {X} test item x xs (Some y) passes some = (suc some.0, omega (arith, some.1), some.2, some.3, each)
  where
    each : (k : ℕ) → k < suc some.0 → test (get_or (x ∷ xs) k 0) ≡ true
    each zero less = passes
    each (suc k) less = some.4 k (omega (arith, less))

pub first-failing : {X : Type 0} (test : ℕ → Bool) (item : ℕ → X) (xs : List ℕ) → IsFirstFailing test item xs (first_of (flat_map (item_at test item) xs))
first-failing test item [] = λ k within. absurd (omega (arith, within))
first-failing {X} test item (x ∷ xs) = by (test x) refl (first-failing test item xs)
  where
    by : (passes : Bool) → test x ≡ passes → IsFirstFailing test item xs (first_of (flat_map (item_at test item) xs))
        → IsFirstFailing test item (x ∷ xs) (first_of ((if passes then [] else item x ∷ []) ++ flat_map (item_at test item) xs))
    by true is later = later-failing test item x xs (first_of (flat_map (item_at test item) xs)) is later
    by false is later = (0, omega arith, refl, is, λ k less. absurd (omega (arith, less)))

-- ---- lists without a first item

pub none-of : {X : Type 0} (xs : List X) → first_of xs ≡ None → xs ≡ []
none-of [] none = refl
none-of (x ∷ xs) none = cc

pub none-first : {X : Type 0} (xs : List X) → xs ≡ [] → first_of xs ≡ None
none-first xs none = ap first_of none
