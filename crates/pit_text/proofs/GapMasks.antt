-- Where the first gap is.
use Rattle.std.proofs.Common.{◌≡◌, ℕ, ◌%◌, ◌^◌, ◌<◌, ◌≤◌, ◌||◌, eqb, cond, Bool, true, false, List, [], ◌∷◌, length, take, map, get_or, min, replicate, bit_or, refl, ap, sym, ◌∙◌, arith, length-take}
use Rattle.std.specs.List.{position_or_len}
use Rattle.std.proofs.lemmas.List.{length-map, get_or-take}
use Rattle.std.proofs.lemmas.List.Sums.{position_or_len_is, fails_before_first, passes_at_first}
use Rattle.std.proofs.lemmas.Simd.{zip2_splat, zip2_of_maps, mask_l-mod}
use lib.Lanes.{zip2, mask_l, top}
use Rattle.pit_text.specs.Cutting.{is_gap}

-- one lane, of three comparisons
top_of : (a b c : Bool) → top 7 (bit_or (bit_or (cond a 255 0) (cond b 255 0)) (cond c 255 0)) ≡ (a || b || c)
top_of true true true = refl
top_of true true false = refl
top_of true false true = refl
top_of true false false = refl
top_of false true true = refl
top_of false true false = refl
top_of false false true = refl
top_of false false false = refl

abbrev lane : ℕ → ℕ
lane x = bit_or (bit_or (cond (eqb x 32) 255 0) (cond (eqb x 9) 255 0)) (cond (eqb x 58) 255 0)

tops : (v : List ℕ) → map (top 7) (map lane v) ≡ map is_gap v
tops [] = refl
tops (x ∷ xs) = ap (λ b. b ∷ map (top 7) (map lane xs)) (top_of (eqb x 32) (eqb x 9) (eqb x 58)) ∙ ap (λ bs. is_gap x ∷ bs) (tops xs)

abbrev pub equals : List ℕ → ℕ → List ℕ
equals v y = zip2 (λ a b. cond (eqb a b) 255 0) v (replicate 16 y)

pub gap_mask : (v : List ℕ) → length v ≡ 16 → mask_l (map (top 7) (zip2 bit_or (zip2 bit_or (equals v 32) (equals v 9)) (equals v 58))) % 2 ^ 64 ≡ mask_l (map is_gap v)
gap_mask v long =
    let few : length (map is_gap v) ≤ 64 = omega (arith, length-map v is_gap, long) in
    let blanks = zip2_of_maps bit_or (λ x. cond (eqb x 32) 255 0) (λ x. cond (eqb x 9) 255 0) v (zip2_splat _ v 16 32 long) (zip2_splat _ v 16 9 long) in
    let lanes = zip2_of_maps bit_or _ (λ x. cond (eqb x 58) 255 0) v blanks (zip2_splat _ v 16 58 long) in
    ap (λ z. mask_l (map (top 7) z) % 2 ^ 64) lanes ∙ ap (λ ms. mask_l ms % 2 ^ 64) (tops v) ∙ mask_l-mod (map is_gap v) 64 few

-- from the first bytes to so many of them
pub near : (text : List ℕ) (n len run : ℕ) → n ≤ length text → len ≤ length text → run ≡ position_or_len is_gap (take n text) → run ≤ n → (run < len → run < n) → min run len ≡ position_or_len is_gap (take len text)
near text n len run room within counted most stops =
    sym (position_or_len_is is_gap (take len text) (min run len) 0 (omega (arith, length-take len text))
    (λ k below. ap is_gap (get_or-take len text k 0 (omega arith) ∙ sym (get_or-take n text k 0 (omega arith))) ∙ fails_before_first is_gap (take n text) k 0 (omega (arith, counted)))
    (λ below.
    let less : run < len = omega (arith, length-take len text, below) in
    let is : min run len ≡ run = omega arith in
    let here = passes_at_first is_gap (take n text) 0 (omega (arith, counted, length-take n text, stops less)) in
    let same : get_or (take len text) (min run len) 0 ≡ get_or (take n text) (position_or_len is_gap (take n text)) 0 = ap (λ k. get_or (take len text) k 0) is ∙ get_or-take len text run 0 less ∙ sym (get_or-take n text run 0 (stops less)) ∙ ap (λ k. get_or (take n text) k 0) counted in
    ap is_gap same ∙ here))
