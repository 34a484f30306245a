-- What holds of the coefficients of a block.
use Rattle.std.proofs.Common.{◌≡◌, ℕ, zero, suc, ◌+◌, ◌<◌, Bool, true, false, cond, ◌==◌, ◌||◌, nat_lt, ℤ, pos, FitsSigned, List, [], ◌∷◌, map, refl, arith}
use Rattle.std.specs.List.{All, AllPairs, list_any}
use Rattle.std.specs.List.Sorted.{IsStrictlyIncreasing}
use Rattle.std.proofs.lemmas.Bool.Decides.{nat_tests}
use Rattle.std.proofs.lemmas.List.{get_or-map, length-map}
use Rattle.std.proofs.lemmas.List.Elements.{All-cons, All-nil, All-head, All-tail}
use Rattle.std.proofs.lemmas.List.Kept.{AllPairs-cons, AllPairs-from_increasing}
use Rattle.std.specs.Int.{w64}
use Rattle.pit_model.specs.Pit.{AreCoefs, with_pair}

abbrev pub IsBefore : ℕ × ℤ → ℕ × ℤ → Type 0
IsBefore p q = p.0 < q.0

All-with_pair : (P : ℕ × ℤ → Type 0) (pairs : List (ℕ × ℤ)) (pair : ℕ × ℤ) → P pair → All P pairs → All P (with_pair pairs pair)
All-with_pair P [] pair here all = All-cons P pair [] here all
All-with_pair P (first ∷ more) pair here all =
    by (nat_lt pair.0 first.0) (All-with_pair P more pair here (All-tail P first more all))
  where
    by : (b : Bool) → All P (with_pair more pair) → All P (cond b (pair ∷ first ∷ more) (first ∷ with_pair more pair))
    by true later = All-cons P pair (first ∷ more) here all
    by false later = All-cons P first (with_pair more pair) (All-head P first more all) later

tail : (first : ℕ × ℤ) (more : List (ℕ × ℤ)) → AllPairs IsBefore (first ∷ more) → AllPairs IsBefore more
tail first more h i j d less within = h (suc i) (suc j) d (omega arith) (omega arith)

head : (first : ℕ × ℤ) (more : List (ℕ × ℤ)) → AllPairs IsBefore (first ∷ more) → All (IsBefore first) more
head first more h k d within = h zero (suc k) d (omega arith) (omega arith)

below-from_test : (m n : ℕ) → nat_lt m n ≡ true → m < n
below-from_test m n says = grind (arith, nat_tests)

above-from_tests : (m n : ℕ) → nat_lt m n ≡ false → (n == m) ≡ false → n < m
above-from_tests m n says apart = grind (arith, nat_tests)

first-absent : (b more : Bool) → (b || more) ≡ false → b ≡ false
first-absent true more absent = absent
first-absent false more absent = refl

rest-absent : (b more : Bool) → (b || more) ≡ false → more ≡ false
rest-absent true more absent = cc
rest-absent false more absent = absent

-- where the resource isn't there yet
AllPairs-with_pair : (pairs : List (ℕ × ℤ)) (pair : ℕ × ℤ) → list_any (λ p. p.0 == pair.0) pairs ≡ false → AllPairs IsBefore pairs → AllPairs IsBefore (with_pair pairs pair)
AllPairs-with_pair [] pair absent rising = AllPairs-cons IsBefore pair [] (All-nil (IsBefore pair)) rising
AllPairs-with_pair (first ∷ more) pair absent rising =
    by (nat_lt pair.0 first.0) refl (AllPairs-with_pair more pair (rest-absent _ _ absent) (tail first more rising))
  where
    by : (b : Bool) → nat_lt pair.0 first.0 ≡ b → AllPairs IsBefore (with_pair more pair) → AllPairs IsBefore (cond b (pair ∷ first ∷ more) (first ∷ with_pair more pair))
    by true says later =
        let below = below-from_test pair.0 first.0 says in
        AllPairs-cons IsBefore pair (first ∷ more) (All-cons (IsBefore pair) first more below (λ k d within. let above = head first more rising k d within in omega arith)) rising
    by false says later =
        let above = above-from_tests pair.0 first.0 says (first-absent _ _ absent) in
        AllPairs-cons IsBefore first (with_pair more pair) (All-with_pair (IsBefore first) more pair above (head first more rising)) later

pub AllPairs-increasing : (pairs : List (ℕ × ℤ)) → IsStrictlyIncreasing (map (λ pair. pair.0) pairs) → AllPairs IsBefore pairs
AllPairs-increasing pairs rising i j d less within =
    let long = length-map pairs (λ (p : ℕ × ℤ). p.0) in
    let low = get_or-map (λ (p : ℕ × ℤ). p.0) pairs i d 0 (omega arith) in
    let high = get_or-map (λ (p : ℕ × ℤ). p.0) pairs j d 0 within in
    let sorted = AllPairs-from_increasing (map (λ pair. pair.0) pairs) rising i j 0 less (omega arith) in
    omega arith

increasing-AllPairs : (pairs : List (ℕ × ℤ)) → AllPairs IsBefore pairs → IsStrictlyIncreasing (map (λ pair. pair.0) pairs)
increasing-AllPairs pairs rising k within =
    let long = length-map pairs (λ (p : ℕ × ℤ). p.0) in
    let low = get_or-map (λ (p : ℕ × ℤ). p.0) pairs k (0, pos 0) 0 (omega arith) in
    let high = get_or-map (λ (p : ℕ × ℤ). p.0) pairs (k + 1) (0, pos 0) 0 (omega arith) in
    let sorted = rising k (k + 1) (0, pos 0) (omega arith) (omega arith) in
    omega arith

-- a pair of a resource that isn't there yet keeps the coefficients sound
pub AreCoefs-with_pair : (resources : ℕ) (pairs : List (ℕ × ℤ)) (r : ℕ) (v : ℤ) → AreCoefs resources pairs → r < resources → FitsSigned w64 v → list_any (λ pair. pair.0 == r) pairs ≡ false → AreCoefs resources (with_pair pairs (r, v))
AreCoefs-with_pair resources pairs r v sound resource value absent = record {
  rising = increasing-AllPairs (with_pair pairs (r, v)) (AllPairs-with_pair pairs (r, v) absent (AllPairs-increasing pairs sound.rising));
  in_range = All-with_pair (λ pair. pair.0 < resources) pairs (r, v) resource sound.in_range;
  small = All-with_pair (λ pair. FitsSigned w64 pair.1) pairs (r, v) value sound.small;
}
