-- The table of how many blocks went from each period to each, one more block at a time.
use Rattle.std.proofs.Common.{◌≡◌, ◌⊎◌, ℕ, ◌+◌, ◌*◌, ◌<◌, ◌≤◌, true, false, List, length, replicate, Option, Some, None, IfSome, refl, sym, ap, subst, ◌∙◌, cond, arith, inl, inr}
use Rattle.std.specs.Prelude.{slice_set, slice_index_or}
use Rattle.std.specs.List.{range_with_len}
use Rattle.std.proofs.lemmas.Bool.{cond-true, cond-false}
use Rattle.std.proofs.lemmas.Nat.{mul-add-lt}
use Rattle.std.proofs.lemmas.List.{get_or-set_same, get_or-set_other, get_or-replicate}
use Rattle.std.proofs.lemmas.List.FromFn.{length-range_with_len}
use Rattle.std.proofs.lemmas.List.Sums.{count_by-le-length}
use Rattle.pit_model.proofs.CallerLemmas.{cells_apart, same_resource}
use Rattle.pit_diff.specs.Changes.{is_same, goes, moved}
use Rattle.pit_diff.specs.Inside.Table.{table_place, table_cell, IsPeriodOrNone, IsTableOf}
use Rattle.pit_step.proofs.CallerLemmas.{count-more}
use Rattle.pit_diff.proofs.Same.{period-decides, tells}

-- ---- cells

pub row-within : (periods : ℕ) (p : Option ℕ) → IsPeriodOrNone periods p → table_place periods p < periods + 1
row-within periods None is = omega arith
row-within periods (Some t) is = omega (arith, is)

pub cell-within : (periods : ℕ) (from to : Option ℕ) → IsPeriodOrNone periods from → IsPeriodOrNone periods to → table_cell periods from to < (periods + 1) * (periods + 1)
cell-within periods from to is also =
    mul-add-lt (table_place periods from) (periods + 1) (table_place periods to) (periods + 1) (row-within periods from is) (row-within periods to also)

-- another period stands in another place
pub row-apart : (periods : ℕ) (p q : Option ℕ) → IsPeriodOrNone periods p → IsPeriodOrNone periods q → table_place periods p ≡ table_place periods q → p ≡ q
row-apart periods None None is also same = refl
row-apart periods None (Some t) is also same = absurd (omega (arith, also, same))
row-apart periods (Some s) None is also same = absurd (omega (arith, is, same))
row-apart periods (Some s) (Some t) is also same = ap Some same

-- other periods stand in another cell
pub cell-apart : (periods : ℕ) (from to other more : Option ℕ) → IsPeriodOrNone periods from → IsPeriodOrNone periods to → IsPeriodOrNone periods other → IsPeriodOrNone periods more
    → table_cell periods from to ≡ table_cell periods other more → (from ≡ other) × (to ≡ more)
cell-apart periods from to other more lf lt lo lm same =
    let rows : table_place periods from ≡ table_place periods other =
    cells_apart (periods + 1) (table_place periods to) (table_place periods more) (table_place periods from) (table_place periods other) (row-within periods to lt) (row-within periods more lm) same in (
      row-apart periods from other lf lo rows,
      row-apart periods to more lt lm (sym (same_resource (periods + 1) (table_place periods to) (table_place periods more) (table_place periods from) (table_place periods other) same rows)),
    )

-- ---- one more block

module _ (old new : ℕ → Option ℕ) where
  pub moved-none : (from to : Option ℕ) → moved 0 old new from to ≡ 0
  unfolding moved
  moved-none from to = refl

  pub moved-more : (n : ℕ) (from to : Option ℕ) → moved (n + 1) old new from to ≡ moved n old new from to + cond (goes old new from to n) 1 0
  unfolding moved
  moved-more n from to = count-more (goes old new from to) n

  pub moved-few : (n : ℕ) (from to : Option ℕ) → moved n old new from to ≤ n
  unfolding moved
  moved-few n from to = omega (arith, count_by-le-length (goes old new from to) (range_with_len 0 n), length-range_with_len 0 n)

  pub goes-here : (from to : Option ℕ) (b : ℕ) → old b ≡ from → new b ≡ to → goes old new from to b ≡ true
  goes-here from to b is also = rw ((period-decides (old b) from).1 is, (period-decides (new b) to).1 also) refl

  pub goes-elsewhere : (from to : Option ℕ) (b : ℕ) → ((old b ≡ from) × (new b ≡ to) → ⊥) → goes old new from to b ≡ false
  goes-elsewhere from to b apart =
      elim (tells (is_same (old b) from) (period-decides (old b) from)) [
        | inr other ↦ rw (other.0) refl
        | inl same ↦
            elim (tells (is_same (new b) to) (period-decides (new b) to)) [
              | inr other ↦ rw (same.0, other.0) refl
              | inl also ↦ absurd (apart (same.1, also.1))
            ]
      ]

  module _ (periods : ℕ) (counts : List ℕ) (b : ℕ) (is : IsPeriodOrNone periods (old b)) (also : IsPeriodOrNone periods (new b)) where
    abbrev at : ℕ
    at = table_cell periods (old b) (new b)

    pub counts-more : at < length counts → IsTableOf periods counts (moved b old new) → IsTableOf periods (slice_set counts at (slice_index_or counts at 0 + 1)) (moved (b + 1) old new)
    counts-more within right from to lf lt =
        elim (cell-tells from to) [
          | inl here ↦
              let one = moved-more b from to in
              let goes_so = goes-here from to b here.0 here.1 in
              let before = right from to lf lt in
              let same : at ≡ table_cell periods from to = ap (λ (p : Option ℕ). table_cell periods p (new b)) here.0 ∙ ap (table_cell periods from) here.1 in
              subst (λ (n : ℕ). slice_index_or (slice_set counts at (slice_index_or counts at 0 + 1)) n 0 ≡ moved (b + 1) old new from to) same
              (get_or-set_same counts at (slice_index_or counts at 0 + 1) 0 within
              ∙ (ap (λ (n : ℕ). slice_index_or counts n 0 + 1) same ∙ (ap (λ (n : ℕ). n + 1) before ∙ sym (one ∙ ap (λ (n : ℕ). moved b old new from to + n) (cond-true (goes old new from to b) 1 0 goes_so)))))
          | inr apart ↦
              let one = moved-more b from to in
              let stays = goes-elsewhere from to b apart in
              let none : ◌≡◌ {A = ℕ} (cond (goes old new from to b) 1 0) 0 = cond-false (goes old new from to b) 1 0 stays in
              get_or-set_other counts at (table_cell periods from to) (slice_index_or counts at 0 + 1) 0
              (λ same. let parts = cell-apart periods (old b) (new b) from to is also lf lt (sym same) in apart parts)
              ∙ (right from to lf lt ∙ sym (omega (arith, one, none)))
        ]
      where
        cell-tells : (from to : Option ℕ) → ((old b ≡ from) × (new b ≡ to)) ⊎ ((old b ≡ from) × (new b ≡ to) → ⊥)
        cell-tells from to =
            elim (tells (is_same (old b) from) (period-decides (old b) from)) [
              | inr other ↦ inr (λ both. other.1 both.0)
              | inl same ↦
                  elim (tells (is_same (new b) to) (period-decides (new b) to)) [
                    | inr other ↦ inr (λ both. other.1 both.1)
                    | inl more ↦ inl (same.1, more.1)
                  ]
            ]

pub counts-none : (old new : ℕ → Option ℕ) (periods n : ℕ) → n ≡ (periods + 1) * (periods + 1) → IsTableOf periods (replicate n 0) (moved 0 old new)
counts-none old new periods n same from to is also =
    let within = cell-within periods from to is also in
    get_or-replicate n (table_cell periods from to) 0 0 (omega (arith, within, same)) ∙ sym (moved-none old new from to)

-- ---- a cell of the table

pub cell-is : (cell given periods : ℕ) (p q from to : Option ℕ) → cell ≡ table_cell given p q → given ≡ periods → p ≡ from → q ≡ to → cell ≡ table_cell periods from to
cell-is cell given periods p q from to is same one other =
    is
    ∙ (ap (λ (n : ℕ). table_cell n p q) same ∙ (ap (λ (o : Option ℕ). table_cell periods o q) one ∙ ap (table_cell periods from) other))

pub is-period : (given periods : ℕ) (p q : Option ℕ) → IfSome p (λ t. t < given) → given ≡ periods → p ≡ q → IsPeriodOrNone periods q
is-period given periods p q is same also =
    subst (IsPeriodOrNone periods) also (subst (λ (n : ℕ). IsPeriodOrNone n p) same is)

-- no block is table_number more often than there are blocks
pub table_number-few : (old new : ℕ → Option ℕ) (periods : ℕ) (counts : List ℕ) (b cell : ℕ) → IsPeriodOrNone periods (old b) → IsPeriodOrNone periods (new b) → IsTableOf periods counts (moved b old new)
    → cell ≡ table_cell periods (old b) (new b) → slice_index_or counts cell 0 ≤ b
table_number-few old new periods counts b cell is also right same =
    let here : slice_index_or counts cell 0 ≡ moved b old new (old b) (new b) = ap (λ (n : ℕ). slice_index_or counts n 0) same ∙ right (old b) (new b) is also in
    omega (arith, here, moved-few old new b (old b) (new b))

pub counts-next : (old new : ℕ → Option ℕ) (periods : ℕ) (counts after : List ℕ) (b cell : ℕ) → IsPeriodOrNone periods (old b) → IsPeriodOrNone periods (new b) → cell < length counts
    → cell ≡ table_cell periods (old b) (new b) → after ≡ slice_set counts cell (slice_index_or counts cell 0 + 1) → IsTableOf periods counts (moved b old new) → IsTableOf periods after (moved (b + 1) old new)
counts-next old new periods counts after b cell is also within same set_so right =
    subst (λ (xs : List ℕ). IsTableOf periods xs (moved (b + 1) old new)) (sym (set_so ∙ ap (λ (n : ℕ). slice_set counts n (slice_index_or counts n 0 + 1)) same))
    (counts-more old new periods counts b is also (subst (λ (n : ℕ). n < length counts) same within) right)
