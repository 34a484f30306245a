-- Texts that are made cell by cell, and row by row.
use Rattle.std.proofs.Common.{◌≡◌, ℕ, ◌+◌, List, [], ◌∷◌, ◌++◌, map, codes, ℤ, Option, refl, sym, ap, subst, ◌∙◌, append_assoc}
use Rattle.std.specs.Prelude.{flat_map}
use Rattle.std.specs.List.{range_with_len}
use Rattle.std.specs.Io.KnownBytes.{Appends}
use Rattle.std.proofs.lemmas.List.{append-nil}
use Rattle.std.proofs.lemmas.List.Concat.{flat_map-append}
use Rattle.std.proofs.lemmas.List.Folds.{flat_map-map}
use Rattle.pit_num.proofs.CallerLemmas.{appends_more}
use Rattle.pit_plan.proofs.CallerLemmas.{flat_map-pushed}
use Rattle.pit_model.specs.Pit.{Pit}
use Rattle.pit_table.specs.Rows.{loading_of, row_of, rows_of}
use Rattle.pit_table.specs.CsvText.{behind_commas, row_text, csv_text, row_cells, loading_cells, name_cells, table_text}

-- ---- cells

pub commas-none : behind_commas [] ≡ []
unfolding behind_commas
commas-none = refl

pub commas-append : (front cells : List (List ℕ)) → behind_commas (front ++ cells) ≡ behind_commas front ++ behind_commas cells
unfolding behind_commas
commas-append front cells = flat_map-append (λ cell. 44 ∷ cell) front cells

-- those of one more number
pub commas-more : (cells : ℕ → List (List ℕ)) (n : ℕ) → behind_commas (flat_map cells (range_with_len 0 (n + 1))) ≡ behind_commas (flat_map cells (range_with_len 0 n)) ++ behind_commas (cells n)
commas-more cells n =
    ap behind_commas (sym (flat_map-pushed cells [] (flat_map cells (range_with_len 0 n)) (flat_map cells (range_with_len 0 n) ++ cells n) n refl refl))
    ∙ commas-append (flat_map cells (range_with_len 0 n)) (cells n)

pub three-cells : (a b c d : Option (List ℕ)) (x y z : List ℕ) → Appends a b (44 ∷ x) → Appends b c (44 ∷ y) → Appends c d (44 ∷ z) → Appends a d (behind_commas (x ∷ y ∷ z ∷ []))
unfolding behind_commas
three-cells a b c d x y z one two three =
    appends_more a b d (44 ∷ x) ((44 ∷ y) ++ ((44 ∷ z) ++ [])) one
    (appends_more b c d (44 ∷ y) ((44 ∷ z) ++ []) two (subst (λ (xs : List ℕ). Appends c d xs) (sym (append-nil (44 ∷ z))) three))

pub four-cells : (a b c d e : Option (List ℕ)) (x y z u : List ℕ) → Appends a b (44 ∷ x) → Appends b c (44 ∷ y) → Appends c d (44 ∷ z) → Appends d e (44 ∷ u)
    → Appends a e (behind_commas (x ∷ y ∷ z ∷ u ∷ []))
unfolding behind_commas
four-cells a b c d e x y z u one two three four = appends_more a b e (44 ∷ x) (behind_commas (y ∷ z ∷ u ∷ [])) one (three-cells b c d e y z u two three four)

-- ---- rows

-- the row of a first cell, those behind it, and others
pub row-pieces : (first : List ℕ) (front cells : List (List ℕ)) → first ++ (behind_commas front ++ (behind_commas cells ++ 10 ∷ [])) ≡ row_text (first ∷ (front ++ cells))
unfolding row_text
row-pieces first front cells =
    ap (λ (xs : List ℕ). first ++ xs) (sym (append_assoc (behind_commas front) (behind_commas cells) (10 ∷ [])) ∙ ap (λ (xs : List ℕ). xs ++ 10 ∷ []) (sym (commas-append front cells)))

-- the first row
pub names-pieces : (names : List (List ℕ)) → codes "period,blocks,value,cumulative" ++ (behind_commas names ++ 10 ∷ []) ≡ row_text (codes "period" ∷ codes "blocks" ∷ codes "value" ∷ codes "cumulative" ∷ names)
unfolding row_text behind_commas
names-pieces names = refl

-- the cells of all resources
pub loadings-map : (pit : Pit) (schedule : ℕ → Option ℕ) (limit : ℕ → ℕ → Option ℤ) (t : ℕ) (rs : List ℕ)
    → flat_map (λ r. loading_cells (loading_of pit schedule limit t r)) rs ≡ flat_map loading_cells (map (loading_of pit schedule limit t) rs)
loadings-map pit schedule limit t rs = sym (flat_map-map loading_cells (loading_of pit schedule limit t) rs)

-- ---- the text

pub table-pieces : (pit : Pit) (schedule : ℕ → Option ℕ) (limit : ℕ → ℕ → Option ℤ)
    → row_text (name_cells pit.resources) ++ flat_map (λ t. row_text (row_cells (row_of pit schedule limit t))) (range_with_len 0 pit.periods) ≡ table_text pit schedule limit
unfolding csv_text rows_of
table-pieces pit schedule limit =
    ap (λ (xs : List ℕ). row_text (name_cells pit.resources) ++ xs)
    (sym (flat_map-map (λ row. row_text (row_cells row)) (row_of pit schedule limit) (range_with_len 0 pit.periods))
    ∙ sym (flat_map-map row_text row_cells (map (row_of pit schedule limit) (range_with_len 0 pit.periods))))
