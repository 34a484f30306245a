-- Texts that are written piece by piece.
use Rattle.std.proofs.Common.{◌≡◌, ℕ, ◌+◌, List, [], ◌∷◌, ◌++◌, map, Option, Some, None, Result, Ok, Err, IsOk, OnOk, refl, sym, ap, subst, ◌∙◌}
use Rattle.std.specs.Prelude.{flat_map}
use Rattle.std.specs.List.{range_with_len}
use Rattle.std.specs.Io.KnownBytes.{Appends}
use Rattle.std.proofs.lemmas.Bool.{false≢true}
use Rattle.std.proofs.lemmas.List.{append-nil}
use Rattle.std.proofs.lemmas.List.Concat.{flat_map-append}
use Rattle.std.proofs.lemmas.List.Folds.{flat_map-map}
use Rattle.pit_num.proofs.CallerLemmas.{appends_more}
use Rattle.pit_plan.proofs.CallerLemmas.{flat_map-pushed}
use Rattle.pit_diff.specs.Changes.{Move, change_at, changes_of, periods_and_none}
use Rattle.pit_diff.specs.DiffText.{changes_text, move_text, moves_text}

-- the piece of one more number
pub appends-pushed : (start between end : Option (List ℕ)) (piece : ℕ → List ℕ) (n : ℕ) → Appends start between (flat_map piece (range_with_len 0 n)) → Appends between end (piece n)
    → Appends start end (flat_map piece (range_with_len 0 (n + 1)))
appends-pushed start between end piece n first next =
    let text = flat_map piece (range_with_len 0 n) in
    subst (Appends start end) (flat_map-pushed piece [] text (text ++ piece n) n refl refl) (appends_more start between end text (piece n) first next)

-- what holds where a result is one
pub given-ok : {X Y P : Type 0} (result : Result X Y) → IsOk result → OnOk result P → P
given-ok (Ok x) is p = p
given-ok (Err e) is p = absurd (false≢true is)

-- two values that are the same
pub both_same : {X : Type 0} (P : X → X → Type 0) {x y u v : X} → x ≡ y → u ≡ v → P x u → P y v
both_same {X} P {x} {y} {u} {v} same also is = subst (λ (z : X). P z v) same (subst (P x) also is)

-- ---- blocks

pub changes-none : (old new : ℕ → Option ℕ) → changes_text (changes_of 0 old new) ≡ []
unfolding changes_of
changes-none old new = refl

pub changes-pushed : (start between end : Option (List ℕ)) (old new : ℕ → Option ℕ) (n : ℕ) → Appends start between (changes_text (changes_of n old new)) → Appends between end (changes_text (change_at old new n))
    → Appends start end (changes_text (changes_of (n + 1) old new))
unfolding changes_of
changes-pushed start between end old new n first next =
    let rows = flat_map (change_at old new) (range_with_len 0 n) in
    subst (Appends start end)
    (sym (flat_map-append _ rows (change_at old new n)) ∙ ap changes_text (flat_map-pushed (change_at old new) [] rows (rows ++ change_at old new n) n refl refl))
    (appends_more start between end (changes_text rows) (changes_text (change_at old new n)) first next)

-- ---- moves

flat_map-flat : {X Y Z : Type 0} (f : Y → List Z) (g : X → List Y) (xs : List X) → flat_map f (flat_map g xs) ≡ flat_map (λ (x : X). flat_map f (g x)) xs
flat_map-flat f g [] = refl
flat_map-flat {X} {Y} {Z} f g (x ∷ xs) =
    flat_map-append f (g x) (flat_map g xs) ∙ ap (λ (zs : List Z). flat_map f (g x) ++ zs) (flat_map-flat f g xs)

-- of each period, and then of none
pub moves-placed : (periods : ℕ) (moves : Option ℕ → List Move)
    → moves_text (flat_map moves (periods_and_none periods)) ≡ flat_map (λ (t : ℕ). moves_text (moves (Some t))) (range_with_len 0 periods) ++ moves_text (moves None)
unfolding periods_and_none
moves-placed periods moves =
    let text : Option ℕ → List ℕ = λ (p : Option ℕ). moves_text (moves p) in
    flat_map-flat move_text moves (map Some (range_with_len 0 periods) ++ None ∷ [])
    ∙ (flat_map-append text (map Some (range_with_len 0 periods)) (None ∷ [])
    ∙ (ap (λ (xs : List ℕ). xs ++ flat_map text (None ∷ [])) (flat_map-map text Some (range_with_len 0 periods))
    ∙ ap (λ (xs : List ℕ). flat_map (λ (t : ℕ). text (Some t)) (range_with_len 0 periods) ++ xs) (append-nil (text None))))
