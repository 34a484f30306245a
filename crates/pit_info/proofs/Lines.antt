-- The lines of resources without an upper limit.
use Rattle.std.proofs.Common.{◌≡◌, ℕ, ◌+◌, not, Bool, true, false, cond, List, [], ◌∷◌, ◌++◌, refl, ap, ◌∙◌}
use Rattle.std.specs.List.{filter, range_with_len}
use Rattle.std.proofs.lemmas.List.{append-nil}
use Rattle.std.proofs.lemmas.List.Concat.{flat_map-append}
use Rattle.std.proofs.lemmas.List.Elements.{filter-append}
use Rattle.pit_info.specs.InfoText.{unlimited_line, unlimited_text, unless_text}
use Rattle.pit_step.proofs.CallerLemmas.{range-more}

pub unlimited-none : unlimited_text [] ≡ []
unfolding unlimited_text
unlimited-none = refl

unlimited-one : (is_limited : Bool) (r : ℕ) → unlimited_text (cond (not is_limited) (r ∷ []) []) ≡ unless_text is_limited r
unfolding unlimited_text
unlimited-one true r = refl
unlimited-one false r = append-nil (unlimited_line r)

pub unlimited-more : (p : ℕ → Bool) (n : ℕ) (is_limited : Bool) → p n ≡ not is_limited
    → unlimited_text (filter p (range_with_len 0 (n + 1))) ≡ unlimited_text (filter p (range_with_len 0 n)) ++ unless_text is_limited n
unfolding unlimited_text
unlimited-more p n is_limited is =
    ap (λ (rs : List ℕ). unlimited_text (filter p rs)) (range-more n) ∙ ap unlimited_text (filter-append p (range_with_len 0 n) (n ∷ []))
    ∙ flat_map-append unlimited_line (filter p (range_with_len 0 n)) (filter p (n ∷ []))
    ∙ ap (λ (b : Bool). unlimited_text (filter p (range_with_len 0 n)) ++ unlimited_text (cond b (n ∷ []) [])) is
    ∙ ap (λ (xs : List ℕ). unlimited_text (filter p (range_with_len 0 n)) ++ xs) (unlimited-one is_limited n)
