-- The lines of shortfalls, one after the other.
use Rattle.std.proofs.Common.{◌≡◌, ℕ, ◌+◌, ◌<◌, List, [], ◌∷◌, ◌++◌, length, take, slice_index_or, refl, ap, ◌∙◌}
use Rattle.std.proofs.lemmas.List.{append-nil, take_more}
use Rattle.std.proofs.lemmas.List.Concat.{flat_map-append}
use Rattle.pit_plan.specs.declared.short.Short.{Short}
use Rattle.pit_step.specs.LineTexts.{short_text, shorts_text}

pub shorts_none : shorts_text [] ≡ []
unfolding shorts_text
shorts_none = refl

pub shorts_more : (shorts : List Short) (i : ℕ) (d : Short) → i < length shorts → shorts_text (take (i + 1) shorts) ≡ shorts_text (take i shorts) ++ short_text (slice_index_or shorts i d)
unfolding shorts_text
shorts_more shorts i d below =
    ap (λ (xs : List Short). shorts_text xs) (take_more shorts i d below)
    ∙ flat_map-append short_text (take i shorts) (slice_index_or shorts i d ∷ [])
    ∙ ap (λ (xs : List ℕ). shorts_text (take i shorts) ++ xs) (append-nil (short_text (slice_index_or shorts i d)))
