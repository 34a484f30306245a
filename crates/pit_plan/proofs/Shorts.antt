-- Lists of what stands at each number.
use Rattle.std.proofs.Common.{◌≡◌, ◌≢◌, ℕ, zero, suc, ◌+◌, ◌<◌, ◌≤◌, List, [], ◌∷◌, ◌++◌, refl, sym, ap, ◌∙◌, arith, inl, inr}
use Rattle.std.specs.Prelude.{flat_map}
use Rattle.std.specs.List.{range_with_len}
use Rattle.std.proofs.lemmas.Bool.Decides.{eqb_tells}
use Rattle.std.proofs.lemmas.List.{map-id, flat_map_more}
use Rattle.std.proofs.lemmas.List.FromFn.{map-range_with_len_more}

pub flat_map-same : {X : Type 0} (f g : ℕ → List X) (ns : List ℕ) → ((n : ℕ) → f n ≡ g n) → flat_map f ns ≡ flat_map g ns
flat_map-same f g [] h = refl
flat_map-same f g (n ∷ ns) h =
    let first = h n in
    let more = flat_map-same f g ns h in
    cc

range-more : (n : ℕ) → range_with_len 0 (n + 1) ≡ range_with_len 0 n ++ n ∷ []
range-more n =
    sym (map-id (range_with_len 0 (n + 1)))
    ∙ (map-range_with_len_more (λ k. k) 0 n n (omega arith) ∙ ap (λ ns. ns ++ n ∷ []) (map-id (range_with_len 0 n)))

-- one more number
pub flat_map-more : {X : Type 0} (f : ℕ → List X) (before : List X) (n : ℕ)
    → (before ++ flat_map f (range_with_len 0 n)) ++ f n ≡ before ++ flat_map f (range_with_len 0 (n + 1))
flat_map-more f before n = flat_map_more f before (range_with_len 0 n) n ∙ ap (λ ns. before ++ flat_map f ns) (sym (range-more n))

pub flat_map-pushed : {X : Type 0} (f : ℕ → List X) (before list after : List X) (n : ℕ) → list ≡ before ++ flat_map f (range_with_len 0 n) → after ≡ list ++ f n
    → after ≡ before ++ flat_map f (range_with_len 0 (n + 1))
flat_map-pushed f before list after n is pushed = pushed ∙ (ap (λ xs. xs ++ f n) is ∙ flat_map-more f before n)

front-nil : {X : Type 0} (xs ys : List X) → xs ++ ys ≡ [] → xs ≡ []
front-nil [] ys none = refl
front-nil (x ∷ xs) ys none = cc

rest-nil : {X : Type 0} (xs ys : List X) → xs ++ ys ≡ [] → ys ≡ []
rest-nil [] ys none = none
rest-nil (x ∷ xs) ys none = cc

pub flat_map-none : {X : Type 0} (f : ℕ → List X) (a n k : ℕ) → flat_map f (range_with_len a n) ≡ [] → a ≤ k → k < a + n → f k ≡ []
flat_map-none f a zero k none low high = absurd (omega arith)
flat_map-none f a (suc n) k none low high =
    elim (eqb_tells k a) [
      | inl here ↦ ap f here.1 ∙ front-nil (f a) (flat_map f (range_with_len (a + 1) n)) none
      | inr there ↦ flat_map-none f (a + 1) n k (rest-nil (f a) (flat_map f (range_with_len (a + 1) n)) none) (omega (arith, there.1)) (omega arith)
    ]

-- there is one where there is one at some number
pub flat_map-some : {X : Type 0} (f : ℕ → List X) (n k : ℕ) → k < n → f k ≢ [] → flat_map f (range_with_len 0 n) ≢ []
flat_map-some f n k within some = λ none. some (flat_map-none f 0 n k none (omega arith) (omega arith))
