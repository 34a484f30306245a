-- What is found in pairs of blocks with their periods.
use Rattle.std.proofs.Common.{◌≡◌, ◌≢◌, ℕ, zero, suc, ◌<◌, List, [], ◌∷◌, length, map, take, get_or, Option, Some, None, refl, sym, ap, ◌∙◌, arith, inl, inr}
use Rattle.std.specs.Prelude.{All, Contains, nat_eq}
use Rattle.std.specs.List.Sorted.{IsStrictlyIncreasing}
use Rattle.std.specs.Map.{lookup}
use Rattle.std.proofs.lemmas.Bool.{cond-true, cond-false, eq-eqb, ne_eqb}
use Rattle.std.proofs.lemmas.Bool.Decides.{eqb_tells}
use Rattle.std.proofs.lemmas.List.{length-map, length-take-le, get_or-take, get_or-map, get_or_default}
use Rattle.std.proofs.lemmas.List.Elements.{All-head, All-tail, All-weaker, All-contains_itself}
use Rattle.std.proofs.lemmas.List.Kept.{AllPairs-from_increasing}

module _ (f : ℕ → Option ℕ) where
  abbrev pub pairs_of : List ℕ → List (ℕ × Option ℕ)
  pairs_of blocks = map (λ b. (b, f b)) blocks

  pub absent : (k : ℕ) (xs : List ℕ) → All (λ x. k ≢ x) xs → lookup (nat_eq k) (pairs_of xs) ≡ None
  absent k [] none = refl
  absent k (x ∷ xs) none =
      cond-false (nat_eq k x) (Some (f x)) (lookup (nat_eq k) (pairs_of xs)) (ne_eqb k x (All-head (λ (y : ℕ). k ≢ y) x xs none))
      ∙ absent k xs (All-tail (λ (y : ℕ). k ≢ y) x xs none)

  there-at : (k : ℕ) (xs : List ℕ) (i : ℕ) → i < length xs → get_or xs i k ≡ k → lookup (nat_eq k) (pairs_of xs) ≡ Some (f k)
  there-at k [] i below at = absurd (omega (arith, below))
  there-at k (x ∷ xs) zero below at =
      cond-true (nat_eq k x) (Some (f x)) (lookup (nat_eq k) (pairs_of xs)) (eq-eqb k x (sym at)) ∙ ap (λ (y : ℕ). Some (f y)) at
  there-at k (x ∷ xs) (suc i) below at =
      elim (eqb_tells k x) [
        | inl here ↦ cond-true (nat_eq k x) (Some (f x)) (lookup (nat_eq k) (pairs_of xs)) here.0 ∙ ap (λ (y : ℕ). Some (f y)) (sym here.1)
        | inr other ↦ cond-false (nat_eq k x) (Some (f x)) (lookup (nat_eq k) (pairs_of xs)) other.0 ∙ there-at k xs i (omega (arith, below)) at
      ]

  pub there : (k : ℕ) (xs : List ℕ) → Contains xs k → lookup (nat_eq k) (pairs_of xs) ≡ Some (f k)
  there k xs among = there-at k xs among.0 among.1 among.2

  -- a pair is that of a block, and a block has its pair
  pub block-of : (xs : List ℕ) (p : ℕ × Option ℕ) → Contains (pairs_of xs) p → Contains xs p.0
  block-of xs p among =
      let below : among.0 < length xs = omega (arith, among.1, length-map {B = ℕ × Option ℕ} xs (λ (b : ℕ). (b, f b))) in
      (among.0, below, ap (λ (q : ℕ × Option ℕ). q.0) (sym (get_or-map (λ (b : ℕ). (b, f b)) xs among.0 p.0 p below) ∙ among.2))

  pub pair-of : (xs : List ℕ) (x : ℕ) → Contains xs x → Contains (pairs_of xs) (x, f x)
  pair-of xs x among = (
    among.0,
    omega (arith, among.1, length-map {B = ℕ × Option ℕ} xs (λ (b : ℕ). (b, f b))),
    get_or-map (λ (b : ℕ). (b, f b)) xs among.0 x (x, f x) among.1 ∙ ap (λ (b : ℕ). (b, f b)) among.2,
  )

-- of rising blocks none before one is that one
pub front-others : (xs : List ℕ) (i : ℕ) → IsStrictlyIncreasing xs → i < length xs → All (λ x. get_or xs i 0 ≢ x) (take i xs)
front-others xs i rising below = λ k d within.
    let long = length-take-le i xs (omega (arith, below)) in
    let inside : k < i = omega (arith, within, long) in
    let less : get_or xs k d < get_or xs i d = AllPairs-from_increasing xs rising k i d inside below in
    λ is. omega (arith, is, less, get_or-take i xs k d inside, get_or_default xs i d 0 below)

-- what isn't among them is none of them
pub none-of : (xs : List ℕ) (k : ℕ) → (Contains xs k → ⊥) → All (λ x. k ≢ x) xs
none-of xs k isnt =
    All-weaker (Contains xs) (λ x. k ≢ x) (λ x among is. isnt (among.0, among.1, get_or_default xs among.0 k x among.1 ∙ (among.2 ∙ sym is))) xs (All-contains_itself xs)
