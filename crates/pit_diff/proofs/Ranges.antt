-- Lists of what stands at each number.
use Rattle.std.proofs.Common.{◌≡◌, ℕ, zero, suc, ◌+◌, ◌<◌, List, [], ◌++◌, refl, sym, ap, ◌∙◌, arith}
use Rattle.std.specs.Prelude.{flat_map}
use Rattle.std.specs.List.{range_with_len}
use Rattle.pit_plan.proofs.CallerLemmas.{flat_map-pushed}

-- the same at each number
pub flat_map-below : {X : Type 0} (f g : ℕ → List X) (n : ℕ) → ((k : ℕ) → k < n → f k ≡ g k) → flat_map f (range_with_len 0 n) ≡ flat_map g (range_with_len 0 n)
flat_map-below f g zero same = refl
flat_map-below {X} f g (suc n) same =
    let less = flat_map-below f g n (λ k below. same k (omega (arith, below))) in
    let last = same n (omega arith) in
    let one : ◌≡◌ {A = ℕ} (n + 1) (suc n) = omega arith in
    let both = flat_map-pushed f [] (flat_map f (range_with_len 0 n)) (flat_map f (range_with_len 0 n) ++ f n) n refl refl in
    let others = flat_map-pushed g [] (flat_map g (range_with_len 0 n)) (flat_map g (range_with_len 0 n) ++ g n) n refl refl in
    ap (λ (k : ℕ). flat_map f (range_with_len 0 k)) (sym one)
    ∙ (sym both ∙ (ap (λ (xs : List X). xs ++ f n) less ∙ (ap (λ (xs : List X). flat_map g (range_with_len 0 n) ++ xs) last ∙ (others ∙ ap (λ (k : ℕ). flat_map g (range_with_len 0 k)) one))))
