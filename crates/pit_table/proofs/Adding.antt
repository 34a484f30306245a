-- What the rows add up to.
use Rattle.std.proofs.Common.{◌≡◌, ℕ, zero, suc, ◌<◌, ◌^◌, ◌*◌, ℤ, pos, FitsSigned, cond, List, [], ◌∷◌, ◌++◌, map, Option, Some, None, refl, sym, ap, subst, ◌∙◌, arith, add-one}
use Rattle.std.specs.Prelude.{is_some, IfSome, count_by}
use Rattle.std.specs.List.{range_with_len, last_or}
use Rattle.std.proofs.lemmas.List.FromFn.{map-range_with_len_more}
use Rattle.std.specs.Int.{w128}
use Rattle.std.proofs.lemmas.Int.{ints}
use Rattle.pit_model.specs.Pit.{Pit, IsSound}
use Rattle.pit_plan.specs.Sums.{total}
use Rattle.pit_plan.specs.Schedule.{is_in, earned_in, value_of}
use Rattle.pit_plan.proofs.CallerLemmas.{total-same}
use Rattle.pit_table.specs.Rows.{Row, addend, blocks_in, value_in, row_of, rows_of}
use Rattle.pit_table.proofs.Totals.{total-swap, total-period, period-within, at_period}
use Rattle.pit_table.proofs.Counts.{count-total}
use Rattle.pit_table.proofs.Bounds.{total-within, period-bounded}

module _ (pit : Pit) (schedule : ℕ → Option ℕ) where
  -- the values of the first periods are what the blocks earn that are in these
  pub values-below : (k : ℕ) → total (value_in pit schedule) k ≡ total (λ b. at_period (schedule b) (earned_in pit b (schedule b)) k) pit.blocks
  values-below k =
      total-swap (addend pit schedule) k pit.blocks
      ∙ total-same (λ b. total (λ t. addend pit schedule t b) k) (λ b. at_period (schedule b) (earned_in pit b (schedule b)) k) pit.blocks (λ b below. total-period (schedule b) (earned_in pit b (schedule b)) k)

  -- so there is room for the value of one more period
  pub values-fit : (k : ℕ) → IsSound pit → FitsSigned w128 (total (value_in pit schedule) k)
  values-fit k sound =
      let small = total-within (λ b. at_period (schedule b) (earned_in pit b (schedule b)) k) (2 ^ 63 * 10 ^ 12) pit.blocks (λ b. period-bounded pit b (schedule b) (schedule b) k sound) in
      let same = values-below k in
      omega (arith, ints, small.low, small.high, same, sound.few_blocks)

  module _ (in_range : (b : ℕ) → b < pit.blocks → IfSome (schedule b) (λ t. t < pit.periods)) where
    earned-some : (b : ℕ) (p : Option ℕ) → cond (is_some p) (earned_in pit b p) (pos 0) ≡ earned_in pit b p
    earned-some b None = refl
    earned-some b (Some t) = refl

    pub values-add_up : total (value_in pit schedule) pit.periods ≡ value_of pit schedule
    values-add_up =
        values-below pit.periods
        ∙ total-same (λ b. at_period (schedule b) (earned_in pit b (schedule b)) pit.periods) (λ b. earned_in pit b (schedule b)) pit.blocks
        (λ b below. period-within (schedule b) (earned_in pit b (schedule b)) pit.periods (in_range b below) ∙ earned-some b (schedule b))

    pub blocks-add_up : total (λ t. pos (blocks_in pit schedule t)) pit.periods ≡ pos (count_by (λ b. is_some (schedule b)) (range_with_len 0 pit.blocks))
    blocks-add_up =
        total-same (λ t. pos (blocks_in pit schedule t)) (λ t. total (λ b. cond (is_in (schedule b) t) (pos 1) (pos 0)) pit.blocks) pit.periods (λ t below. count-total (λ b. is_in (schedule b) t) pit.blocks)
        ∙ (total-swap (λ t b. cond (is_in (schedule b) t) (pos 1) (pos 0)) pit.periods pit.blocks
        ∙ (total-same (λ b. total (λ t. cond (is_in (schedule b) t) (pos 1) (pos 0)) pit.periods) (λ b. cond (is_some (schedule b)) (pos 1) (pos 0)) pit.blocks
        (λ b below. total-period (schedule b) (pos 1) pit.periods ∙ period-within (schedule b) (pos 1) pit.periods (in_range b below))
        ∙ sym (count-total (λ b. is_some (schedule b)) pit.blocks)))

-- ---- the last row

last-push : {X : Type 0} (before : Option X) (xs : List X) (x : X) → last_or before (xs ++ x ∷ []) ≡ Some x
last-push before [] x = refl
last-push before (y ∷ ys) x = last-push (Some y) ys x

last-same : {X : Type 0} (xs ys : List X) (x y : X) → xs ++ x ∷ [] ≡ ys ++ y ∷ [] → x ≡ y
last-same {X} xs ys x y same =
    let one : Some x ≡ Some y = sym (last-push None xs x) ∙ ap (λ (zs : List X). last_or None zs) same ∙ last-push None ys y in
    cc

last-of_rows : (pit : Pit) (schedule : ℕ → Option ℕ) (limit : ℕ → ℕ → Option ℤ) (k : ℕ) (rows : List Row) (row : Row) → map (row_of pit schedule limit) (range_with_len 0 k) ≡ rows ++ row ∷ []
    → row.cumulative ≡ total (value_in pit schedule) k
last-of_rows pit schedule limit zero [] row is = cc
last-of_rows pit schedule limit zero (first ∷ rows) row is = cc
last-of_rows pit schedule limit (suc n) rows row is =
    let cut : map (row_of pit schedule limit) (range_with_len 0 (suc n)) ≡ map (row_of pit schedule limit) (range_with_len 0 n) ++ row_of pit schedule limit n ∷ [] =
    subst (λ (k : ℕ). map (row_of pit schedule limit) (range_with_len 0 k) ≡ map (row_of pit schedule limit) (range_with_len 0 n) ++ row_of pit schedule limit n ∷ []) (add-one n)
    (map-range_with_len_more (row_of pit schedule limit) 0 n n (omega arith)) in
    let same : row ≡ row_of pit schedule limit n = last-same rows (map (row_of pit schedule limit) (range_with_len 0 n)) row (row_of pit schedule limit n) (sym is ∙ cut) in
    ap (λ (r : Row). r.cumulative) same ∙ ap (λ (k : ℕ). total (value_in pit schedule) k) (add-one n)

pub last-adds_up : (pit : Pit) (schedule : ℕ → Option ℕ) (limit : ℕ → ℕ → Option ℤ) (rows : List Row) (row : Row) → ((b : ℕ) → b < pit.blocks → IfSome (schedule b) (λ t. t < pit.periods))
    → rows_of pit schedule limit ≡ rows ++ row ∷ [] → row.cumulative ≡ value_of pit schedule
unfolding rows_of
last-adds_up pit schedule limit rows row in_range is = last-of_rows pit schedule limit pit.periods rows row is ∙ values-add_up pit schedule in_range
