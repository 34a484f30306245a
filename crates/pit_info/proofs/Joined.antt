-- The runs of unknown keys, one behind the other.
use Rattle.std.proofs.Common.{◌≡◌, nat_lt, not, Bool, true, false, List, [], ◌∷◌, ◌++◌, length, filter, refl, ap, ◌∙◌}
use Rattle.std.specs.Prelude.{flat_map, if◌then◌else◌}
use Rattle.std.specs.List.{slice_split, onto_first}
use Rattle.pit_text.specs.Cutting.{Cut}
use Rattle.pit_info.specs.Unknown.{has_known_key, unknown_runs}
use Rattle.pit_info.proofs.Spans.{kept}

-- all lists of a list, joined
abbrev joined : List (List Cut) → List Cut
joined parts = flat_map (λ part. part) parts

joined-onto : (line : Cut) (parts : List (List Cut)) → joined (onto_first line parts) ≡ line ∷ joined parts
joined-onto line [] = refl
joined-onto line (part ∷ parts) = refl

joined-split : (lines : List Cut) → joined (slice_split has_known_key lines) ≡ filter (λ line. not (has_known_key line)) lines
joined-split [] = refl
joined-split (line ∷ lines) = by (has_known_key line) (joined-split lines)
  where
    by : (known : Bool) → joined (slice_split has_known_key lines) ≡ filter (λ l. not (has_known_key l)) lines
        → joined (if known then [] ∷ slice_split has_known_key lines else onto_first line (slice_split has_known_key lines))
        ≡ (if not known then line ∷ filter (λ l. not (has_known_key l)) lines else filter (λ l. not (has_known_key l)) lines)
    by true later = later
    by false later = joined-onto line (slice_split has_known_key lines) ∙ ap (λ (ls : List Cut). line ∷ ls) later

joined-kept : (parts : List (List Cut)) → joined (filter (λ part. nat_lt 0 (length part)) parts) ≡ joined parts
joined-kept [] = refl
joined-kept ([] ∷ parts) = joined-kept parts
joined-kept ((line ∷ others) ∷ parts) = ap joined (kept line others parts) ∙ ap (λ (ls : List Cut). (line ∷ others) ++ ls) (joined-kept parts)

pub runs-joined : (lines : List Cut) → flat_map (λ run. run) (unknown_runs lines) ≡ filter (λ line. not (has_known_key line)) lines
unfolding unknown_runs
runs-joined lines = joined-kept (slice_split has_known_key lines) ∙ joined-split lines
