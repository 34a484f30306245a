-- The lines of sessions, one after the other.
use Rattle.std.proofs.Common.{◌≡◌, ℕ, ◌+◌, ◌<◌, List, [], ◌∷◌, ◌++◌, length, take, slice_index_or, refl, ap, subst, sym, ◌∙◌, Option}
use Rattle.std.proofs.lemmas.List.{append-nil, take_more}
use Rattle.std.proofs.lemmas.List.Concat.{flat_map-append}
use Rattle.std.specs.Io.KnownBytes.{Appends}
use Rattle.pit_num.proofs.CallerLemmas.{appends_more, appends_nothing}
use Rattle.pit_live.specs.Sittings.{sitting_text, sittings_text}
use Rattle.pit_live.specs.declared.sitting.Sitting.{Sitting}

sittings_none : sittings_text [] ≡ []
unfolding sittings_text
sittings_none = refl

sittings_more : (sittings : List Sitting) (i : ℕ) (d : Sitting) → i < length sittings
    → sittings_text (take (i + 1) sittings) ≡ sittings_text (take i sittings) ++ sitting_text (slice_index_or sittings i d)
unfolding sittings_text
sittings_more sittings i d below =
    ap (λ (xs : List Sitting). sittings_text xs) (take_more sittings i d below)
    ∙ flat_map-append sitting_text (take i sittings) (slice_index_or sittings i d ∷ [])
    ∙ ap (λ (xs : List ℕ). sittings_text (take i sittings) ++ xs) (append-nil (sitting_text (slice_index_or sittings i d)))

pub sittings_begin : (a : Option (List ℕ)) (sittings : List Sitting) → Appends a a (sittings_text (take 0 sittings))
sittings_begin a sittings = subst (λ (t : List ℕ). Appends a a t) (sym sittings_none) (appends_nothing a)

pub sittings_go_on : (a b c : Option (List ℕ)) (sittings : List Sitting) (i : ℕ) (d : Sitting) → i < length sittings
    → Appends a b (sittings_text (take i sittings)) → Appends b c (sitting_text (slice_index_or sittings i d)) → Appends a c (sittings_text (take (i + 1) sittings))
sittings_go_on a b c sittings i d below before after =
    subst (λ (t : List ℕ). Appends a c t) (sym (sittings_more sittings i d below))
    (appends_more a b c (sittings_text (take i sittings)) (sitting_text (slice_index_or sittings i d)) before after)
