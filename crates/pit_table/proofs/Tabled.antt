-- What is found of a plan is what its commits say.
use Rattle.std.proofs.Common.{◌≡◌, ℕ, zero, suc, ◌+◌, ◌<◌, ◌≤◌, ◌^◌, ℤ, pos, ◌+ℤ◌, ◌-ℤ◌, FitsSigned, Bool, cond, List, map, Option, Some, None, refl, sym, ap, subst, ◌∙◌, arith, add-one}
use Rattle.std.specs.Prelude.{count_by, nat_eq, unwrap_or, IfSome}
use Rattle.std.specs.Map.{lookup}
use Rattle.std.specs.List.{range_with_len}
use Rattle.std.specs.Int.{w64, w128}
use Rattle.std.proofs.lemmas.Int.{ints}
use Rattle.std.proofs.lemmas.Map.Entries.{All-lookup}
use Rattle.pit_model.specs.Pit.{Pit, IsSound, coefs_of, lower_of}
use Rattle.pit_plan.specs.Sums.{total}
use Rattle.pit_plan.specs.Schedule.{is_in, coef_of, share, load_of, earned_in}
use Rattle.pit_plan.proofs.CallerLemmas.{total-same}
use Rattle.pit_table.specs.declared.mined.Mined.{Mined}
use Rattle.pit_table.specs.Rows.{Row, Loading, addend, loading_of, row_of, value_in, value_up_to, blocks_in}
use Rattle.pit_table.specs.Inside.Mined.{AreMined, mined_at}
use Rattle.pit_table.proofs.Totals.{total-more}
use Rattle.pit_step.proofs.CallerLemmas.{count-more}
use Rattle.pit_table.proofs.Bounds.{IsWithin, total-within, cond-within, zero-within, within-64}
use Rattle.pit_table.proofs.Adding.{values-fit}

-- ---- of a schedule that is the same for all blocks

count-same : (test other : ℕ → Bool) (n : ℕ) → ((b : ℕ) → b < n → test b ≡ other b) → count_by test (range_with_len 0 n) ≡ count_by other (range_with_len 0 n)
count-same test other zero same = refl
count-same test other (suc n) same =
    let rest = count-same test other n (λ b below. same b (omega (arith, below))) in
    subst (λ (k : ℕ). count_by test (range_with_len 0 k) ≡ count_by other (range_with_len 0 k)) (add-one n)
    (count-more test n ∙ (ap (λ (k : ℕ). k + cond (test n) 1 0) rest ∙ ap {B = ℕ} (λ x. count_by other (range_with_len 0 n) + cond x 1 0) (same n (omega arith))) ∙ sym (count-more other n))

pub mined-same : (pit : Pit) (schedule other : ℕ → Option ℕ) (n : ℕ) (mined : List Mined) → ((b : ℕ) → b < n → schedule b ≡ other b) → AreMined pit schedule n mined → AreMined pit other n mined
mined-same pit schedule other n mined same are = record {
  each = are.each;
  blocks = λ t below.
      are.blocks t below ∙ count-same (λ b. is_in (schedule b) t) (λ b. is_in (other b) t) n (λ b within. ap (λ (p : Option ℕ). is_in p t) (same b within));
  value = λ t below.
      are.value t below ∙ total-same (addend pit schedule t) (addend pit other t) n (λ b within. ap (λ (p : Option ℕ). cond (is_in p t) (earned_in pit b p) (pos 0)) (same b within));
}

-- ---- what is earned so far

module _ (pit : Pit) (schedule : ℕ → Option ℕ) (mined : List Mined) (are : AreMined pit schedule pit.blocks mined) where
  pub earned-so_far : (k : ℕ) → k ≤ pit.periods → total (λ t. (mined_at mined t).value) k ≡ total (value_in pit schedule) k
  earned-so_far k within = total-same (λ t. (mined_at mined t).value) (value_in pit schedule) k (λ t below. are.value t (omega (arith, within, below)))

  pub earned-fits : (k : ℕ) → IsSound pit → k < pit.periods → FitsSigned w128 (total (λ t. (mined_at mined t).value) k +ℤ (mined_at mined k).value)
  earned-fits k sound below =
      let fits = values-fit pit schedule (k + 1) sound in
      let same = earned-so_far (k + 1) (omega (arith, below)) in
      let more = total-more (λ t. (mined_at mined t).value) k in
      omega (arith, ints, fits, same, more)

  pub row-same : (limit : ℕ → ℕ → Option ℤ) (t : ℕ) (one : Mined) (cumulative : ℤ) → t < pit.periods → one ≡ mined_at mined t → cumulative ≡ total (λ u. (mined_at mined u).value) (t + 1)
      → record { period = t; blocks = one.blocks; value = one.value; cumulative = cumulative; loadings = map (loading_of pit schedule limit t) (range_with_len 0 pit.resources) } ≡ row_of pit schedule limit t
  row-same limit t one cumulative below is so_far =
      let loadings = map (loading_of pit schedule limit t) (range_with_len 0 pit.resources) in
      let blocks : one.blocks ≡ blocks_in pit schedule t = ap (λ (m : Mined). m.blocks) is ∙ are.blocks t below in
      let value : one.value ≡ value_in pit schedule t = ap (λ (m : Mined). m.value) is ∙ are.value t below in
      let sum : cumulative ≡ value_up_to pit schedule t = so_far ∙ earned-so_far (t + 1) (omega (arith, below)) in
      ap (λ (n : ℕ). rowed t n one.value cumulative loadings) blocks ∙ ap (λ (z : ℤ). rowed t (blocks_in pit schedule t) z cumulative loadings) value
      ∙ ap (λ (z : ℤ). rowed t (blocks_in pit schedule t) (value_in pit schedule t) z loadings) sum
    where
      rowed : ℕ → ℕ → ℤ → ℤ → List Loading → Row
      rowed period blocks value cumulative loadings = record { period = period; blocks = blocks; value = value; cumulative = cumulative; loadings = loadings }

-- ---- loads

pub loading-same : (pit : Pit) (schedule : ℕ → Option ℕ) (limit : ℕ → ℕ → Option ℤ) (t r : ℕ) (load : ℤ) (lower upper : Option ℤ) → load ≡ load_of pit schedule r t → lower ≡ lower_of pit r t → upper ≡ limit r t
    → record { load = load; lower = lower; upper = upper } ≡ loading_of pit schedule limit t r
loading-same pit schedule limit t r load lower upper load_is lower_is upper_is =
    ap (λ (z : ℤ). limited z lower upper) load_is ∙ ap (λ (p : Option ℤ). limited (load_of pit schedule r t) p upper) lower_is
    ∙ ap (λ (p : Option ℤ). limited (load_of pit schedule r t) (lower_of pit r t) p) upper_is
  where
    limited : ℤ → Option ℤ → Option ℤ → Loading
    limited load lower upper = record { load = load; lower = lower; upper = upper }

coef-within : (found : Option ℤ) → IfSome found (λ z. FitsSigned w64 z) → IsWithin (2 ^ 63) (unwrap_or found (pos 0))
coef-within None small = zero-within (2 ^ 63)
coef-within (Some z) small = within-64 z small

share-within : (pit : Pit) (schedule : ℕ → Option ℕ) (r t b : ℕ) → IsSound pit → IsWithin (2 ^ 63) (share pit schedule r t b)
share-within pit schedule r t b sound =
    cond-within (2 ^ 63) (is_in (schedule b) t) (coef_of pit b r)
    (coef-within (lookup (nat_eq r) (coefs_of pit b)) (All-lookup (λ z. FitsSigned w64 z) (nat_eq r) (coefs_of pit b) (sound.coefs b).small))

pub room-fits : (pit : Pit) (schedule : ℕ → Option ℕ) (r t : ℕ) (load : ℤ) (top : Option ℤ) → IsSound pit → load ≡ load_of pit schedule r t → IfSome top (λ z. FitsSigned w64 z)
    → IfSome top (λ z. FitsSigned w128 (z -ℤ load))
room-fits pit schedule r t load None sound is small = tt
room-fits pit schedule r t load (Some z) sound is small =
    let within = total-within (share pit schedule r t) (2 ^ 63) pit.blocks (λ b. share-within pit schedule r t b sound) in
    omega (arith, ints, within.low, within.high, is, small, sound.few_blocks)
