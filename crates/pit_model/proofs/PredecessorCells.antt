-- The rows of blocks over one array of cells.
use Rattle.std.proofs.Common.{◌≡◌, ◌≢◌, ℕ, ◌-◌, ◌<◌, ◌≤◌, Bool, true, false, cond, List, [], ◌++◌, length, get_or, take, drop, set, replicate, Option, Some, None, is_some, unwrap_or, refl, sym, ap, ap₂, ◌∙◌, inl, inr, arith, length-append, length-drop, length-set, take_all, get_or-set_same, get_or-set_other}
use Rattle.std.specs.Prelude.{slice_range, Result, Ok, Err, OnErr}
use Rattle.std.proofs.lemmas.Bool.{cases_eq, cases_lt, true≢false}
use Rattle.std.proofs.lemmas.List.{drop_all, nil_from_length, length-take, take-append-le, drop-append-le, get_or_past}
use Rattle.pit_model.specs.Pit.{preds_in}
use Rattle.pit_model.specs.Inside.PredecessorRows.{no_cells, cells_of, rows_in, IsWithinCells, ArePredecessorRows}
use Rattle.pit_model.specs.declared.predecessors.Row.{Row}
use Rattle.pit_model.proofs.BlockSets.{IsWithBlock, IsWithBlock-insert, length-member_values, get_or-member_values, member_values-same, member_values-with, below-known, known-view}
use Rattle.pit_model.proofs.Rows.{get_or-filled_up, length-filled_up, set-each}

cells_of-row : (cells : List ℕ) (rows : List Row) (b : ℕ) (row : Row) → get_or rows b no_cells ≡ row → cells_of cells rows b ≡ slice_range cells row.start row.end
cells_of-row cells rows b row is = ap (λ (r : Row). slice_range cells r.start r.end) is

-- ---- what is read of a block

-- also of one that isn't set, since its row is empty
pub preds_in-rows : (blocks : ℕ) (known : List Bool) (cells : List ℕ) (rows : List Row) (value : List (Option (List ℕ))) → ArePredecessorRows blocks known cells rows → rows_in blocks known cells rows ≡ value → (b : ℕ) → preds_in value b ≡ cells_of cells rows b
preds_in-rows blocks known cells rows value kept shown b =
    ap (λ (v : List (Option (List ℕ))). preds_in v b) (sym shown)
    ∙ (elim (cases_lt b blocks) as (λ _. preds_in (rows_in blocks known cells rows) b ≡ cells_of cells rows b) [
      | inl within ↦ ap (λ (o : Option (List ℕ)). unwrap_or o []) (get_or-member_values blocks known (cells_of cells rows) b within) ∙ by (get_or known b false) (kept.unset b)
      | inr past ↦
          let few = kept.few in
          ap (λ (o : Option (List ℕ)). unwrap_or o []) (get_or_past (rows_in blocks known cells rows) b None (omega (arith, length-member_values blocks known (cells_of cells rows))))
          ∙ sym (cells_of-row cells rows b no_cells (get_or_past rows b no_cells (omega arith)))
    ])
  where
    by : (c : Bool) → (c ≡ false → get_or rows b no_cells ≡ no_cells) → unwrap_or (cond c (Some (cells_of cells rows b)) None) [] ≡ cells_of cells rows b
    by true empty = refl
    by false empty = sym (cells_of-row cells rows b no_cells (empty refl))

pub preds_in-none : (blocks : ℕ) (known : List Bool) (cells : List ℕ) (rows : List Row) (value : List (Option (List ℕ))) → ArePredecessorRows blocks known cells rows → rows_in blocks known cells rows ≡ value → length cells ≡ 0 → (b : ℕ) → preds_in value b ≡ []
preds_in-none blocks known cells rows value kept shown none b =
    let row : Row = get_or rows b no_cells in
    preds_in-rows blocks known cells rows value kept shown b
    ∙ nil_from_length (slice_range cells row.start row.end) (omega (arith, length-take (row.end - row.start) (drop row.start cells), length-drop row.start cells))

-- ---- nothing is set

pub ArePredecessorRows-none : (blocks : ℕ) (known : List Bool) (cells : List ℕ) (rows : List Row) → rows ≡ [] → ArePredecessorRows blocks known cells rows
ArePredecessorRows-none blocks known cells rows none = record {
  few = omega (arith, ap length none);
  each = λ k. let row : get_or rows k no_cells ≡ no_cells = ap (λ (l : List Row). get_or l k no_cells) none in rw row (record { rising = omega arith; within = omega arith });
  unset = λ k _. ap (λ (l : List Row). get_or l k no_cells) none;
}

-- ---- the set has more room, and the rows were filled up

pub rows_in-same : (blocks : ℕ) (before after : List Bool) (cells cells' : List ℕ) (rows filled : List Row) → ((k : ℕ) → get_or after k false ≡ get_or before k false) → cells' ≡ cells → ((k : ℕ) → get_or filled k no_cells ≡ get_or rows k no_cells)
    → rows_in blocks after cells' filled ≡ rows_in blocks before cells rows
rows_in-same blocks before after cells cells' rows filled sets same each =
    member_values-same blocks before after (cells_of cells rows) (cells_of cells' filled) sets (λ k. ap₂ (λ (l : List ℕ) (row : Row). slice_range l row.start row.end) same (each k))

-- ---- a block with no predecessors is set

-- a block that isn't set afterwards wasn't before
unset_before : (before after : List Bool) (b k : ℕ) → IsWithBlock before after b → get_or after k false ≡ false → (k ≢ b) × (get_or before k false ≡ false)
unset_before before after b k with out = elim (cases_eq k b) [
  | inl same ↦ absurd (true≢false (sym with.here ∙ ap (λ (i : ℕ). get_or after i false) (sym same) ∙ out))
  | inr other ↦ (other, sym (with.others k other) ∙ out)
]

pub rows_in-empty : (blocks b : ℕ) (before room after : List Bool) (cells : List ℕ) (rows : List Row) (value : List (Option (List ℕ))) → ArePredecessorRows blocks before cells rows → rows_in blocks before cells rows ≡ value → b < length value
    → get_or value b None ≡ None → ((k : ℕ) → get_or room k false ≡ get_or before k false) → blocks ≤ length room → after ≡ set room b true → rows_in blocks after cells rows ≡ set value b (Some [])
rows_in-empty blocks b before room after cells rows value kept shown block none roomier wide inserted =
    let below : b < blocks = below-known blocks before (cells_of cells rows) value b shown block in
    let out : get_or before b false ≡ false = known-view blocks before (cells_of cells rows) value b shown block ∙ ap is_some none in
    let with : IsWithBlock before after b = IsWithBlock-insert blocks before room after b below roomier wide inserted in
    member_values-with blocks before after (cells_of cells rows) (cells_of cells rows) b [] below with (cells_of-row cells rows b no_cells (kept.unset b out)) (λ k other. refl)
    ∙ ap (λ (v : List (Option (List ℕ))). set v b (Some [])) shown

-- ---- a block's row is put behind the others

slice_range-append : (cells more : List ℕ) (start end : ℕ) → start ≤ end → end ≤ length cells → slice_range (cells ++ more) start end ≡ slice_range cells start end
slice_range-append cells more start end rising within =
    let low : start ≤ length cells = omega arith in
    let high : end - start ≤ length (drop start cells) = omega (arith, length-drop start cells) in
    ap (take (end - start)) (drop-append-le start cells more low) ∙ take-append-le (end - start) (drop start cells) more high

slice_range-behind : (cells more : List ℕ) → slice_range (cells ++ more) (length cells) (length (cells ++ more)) ≡ more
slice_range-behind cells more =
    let long : length (cells ++ more) - length cells ≡ length more = omega (arith, length-append cells more) in
    let rest : drop (length cells) (cells ++ more) ≡ more = drop-append-le (length cells) cells more (omega arith) ∙ ap (λ l. l ++ more) (drop_all (length cells) cells (omega arith)) in
    ap₂ take long rest ∙ take_all (length more) more (omega arith)

-- room was made in the set and among the rows
module _ (blocks b old : ℕ) (before room after : List Bool) (cells cells' row : List ℕ) (rows filled : List Row) (place : Row) (value : List (Option (List ℕ)))
    (kept : ArePredecessorRows blocks before cells rows) (shown : rows_in blocks before cells rows ≡ value) (block : b < length value)
    (roomier : (k : ℕ) → get_or room k false ≡ get_or before k false) (wide : blocks ≤ length room) (inserted : after ≡ set room b true)
    (long : old ≡ length rows) (filled_is : filled ≡ take blocks rows ++ replicate (blocks - old) no_cells)
    (grown : cells' ≡ cells ++ row) (first : place.start ≡ length cells) (last : place.end ≡ length cells') where
  below : b < blocks
  below = below-known blocks before (cells_of cells rows) value b shown block

  with : IsWithBlock before after b
  with = IsWithBlock-insert blocks before room after b below roomier wide inserted

  full : length filled ≡ blocks
  full = length-filled_up blocks old rows filled no_cells kept.few long filled_is

  same : (k : ℕ) → get_or filled k no_cells ≡ get_or rows k no_cells
  same = get_or-filled_up blocks old rows filled no_cells kept.few filled_is

  other_row : (k : ℕ) → k ≢ b → get_or (set filled b place) k no_cells ≡ get_or rows k no_cells
  other_row k other = get_or-set_other filled b k place no_cells other ∙ same k

  -- more cells change no other row
  other_cells : (k : ℕ) → k ≢ b → cells_of cells' (set filled b place) k ≡ cells_of cells rows k
  other_cells k other =
      let kept_row = kept.each k in
      cells_of-row cells' (set filled b place) k (get_or rows k no_cells) (other_row k other)
      ∙ ap (λ (l : List ℕ). slice_range l (get_or rows k no_cells).start (get_or rows k no_cells).end) grown
      ∙ slice_range-append cells row (get_or rows k no_cells).start (get_or rows k no_cells).end kept_row.rising kept_row.within

  own_cells : cells_of cells' (set filled b place) b ≡ row
  own_cells =
      cells_of-row cells' (set filled b place) b place (get_or-set_same filled b place no_cells (omega (arith, full, below)))
      ∙ (λ i. slice_range (grown i) (first i) ((last ∙ ap length grown) i))
      ∙ slice_range-behind cells row

  pub rows_in-row : rows_in blocks after cells' (set filled b place) ≡ set value b (Some row)
  rows_in-row =
      member_values-with blocks before after (cells_of cells rows) (cells_of cells' (set filled b place)) b row below with own_cells other_cells
      ∙ ap (λ (v : List (Option (List ℕ))). set v b (Some row)) shown

  longer : length cells ≤ length cells'
  longer = omega (arith, ap length grown, length-append cells row)

  wider : (r : Row) → IsWithinCells (length cells) r → IsWithinCells (length cells') r
  wider r ok = let inside = ok.within in let more = longer in record { rising = ok.rising; within = omega arith }

  pub ArePredecessorRows-row : ArePredecessorRows blocks after cells' (set filled b place)
  ArePredecessorRows-row = record {
    few = omega (arith, length-set filled b place, full);
    each = set-each (λ _ r. IsWithinCells (length cells') r) filled b place no_cells (omega (arith, full, below)) (let more = longer in record { rising = omega arith; within = omega arith }) (λ k. rw (same k) (wider (get_or rows k no_cells) (kept.each k)));
    unset = λ k out. let was = unset_before before after b k with out in other_row k was.0 ∙ kept.unset k was.1;
  }

pub OnErr-always : {T E : Type 0} {P : Type 0} (result : Result T E) → P → OnErr result P
OnErr-always (Ok value) p = tt
OnErr-always (Err error) p = p
