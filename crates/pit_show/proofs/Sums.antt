-- The lines of entries, one more at a time.
use Rattle.std.proofs.Common.{◌≡◌, ℕ, ◌+◌, ◌<◌, List, [], ◌∷◌, ◌++◌, length, take, get_or, flat_map, refl, sym, ap, ◌∙◌}
use Rattle.std.proofs.lemmas.List.{append-nil, take_more}
use Rattle.std.proofs.lemmas.List.Concat.{flat_map-append}
use Rattle.pit_desk.specs.History.{Answered}
use Rattle.pit_lines.specs.declared.format.Format.{Format}
use Rattle.pit_lines.specs.Texts.{with_line_feed, entry_text, entries_text}

pub entries-none : (format : Format) → entries_text format [] ≡ []
unfolding entries_text
entries-none format = refl

pub entries-more : (format : Format) (entries : List Answered) (i : ℕ) (e : Answered) → i < length entries → e ≡ get_or entries i e
    → entries_text format (take (i + 1) entries) ≡ entries_text format (take i entries) ++ with_line_feed (entry_text format e)
unfolding entries_text
entries-more format entries i e below is =
    let line : Answered → List ℕ = λ (x : Answered). with_line_feed (entry_text format x) in
    ap (λ (es : List Answered). flat_map line es) (take_more entries i e below ∙ ap (λ (x : Answered). take i entries ++ x ∷ []) (sym is))
    ∙ (flat_map-append line (take i entries) (e ∷ []) ∙ ap (λ (xs : List ℕ). flat_map line (take i entries) ++ xs) (append-nil (line e)))
