-- Totals after a block moves.
use Rattle.std.proofs.Common.{◌≡◌, ◌≢◌, ℕ, zero, suc, ◌+◌, ◌*◌, ◌^◌, ◌<◌, ℤ, pos, neg_ℤ, ◌+ℤ◌, ◌-ℤ◌, FitsSigned, Bool, true, false, cond, List, [], ◌∷◌, length, length-set, Option, Some, None, refl, sym, ap, subst, ◌∙◌, arith, inl, inr}
use Rattle.std.specs.Prelude.{nat_eq, slice_set, unwrap_or, replicate, IfSome}
use Rattle.std.specs.Map.{lookup}
use Rattle.std.specs.List.{AllByRecursion}
use Rattle.std.proofs.lemmas.List.Elements.{recursion_from_All, All-set, All-replicate}
use Rattle.std.specs.Int.{w64, w128}
use Rattle.std.proofs.lemmas.Int.{ints}
use Rattle.std.proofs.lemmas.List.{get_or-set_same, get_or-set_other, get_or-replicate, length-replicate}
use Rattle.std.proofs.lemmas.Nat.{mul-add-lt}
use Rattle.std.proofs.lemmas.Bool.Decides.{eqb_tells}
use Rattle.pit_model.specs.Pit.{Pit, IsSound, coefs_of, profit_of, factor_of}
use Rattle.pit_num.proofs.CallerLemmas.{factor_le}
use Rattle.pit_plan.proofs.Bounds.{IsWithin, zero-within, product-within}
use Rattle.pit_plan.specs.Sums.{total}
use Rattle.pit_plan.specs.Schedule.{by_block, coef_in, coef_of, share, load_of, earned_in, value_of, is_in}
use Rattle.pit_plan.specs.Inside.Totals.{cell_load, AreLoads, AreTotals, Tallied, IsTally, MovesIn, signed_coef, with_period}
use Rattle.pit_plan.specs.Limits.{at_cell}
use Rattle.pit_plan.proofs.Named.{same-eq, other-eq}
use Rattle.pit_plan.proofs.Sums.{total-same, total-more, total-nothing}
use Rattle.pit_plan.proofs.Same.{same-load, same-value}

-- ---- one block's period replaced

pub with_period-here : (s : ℕ → Option ℕ) (b : ℕ) (p : Option ℕ) → with_period s b p b ≡ p
with_period-here s b p = ap (λ x. cond x p (s b)) (same-eq b b refl)

with_period-other : (s : ℕ → Option ℕ) (b : ℕ) (p : Option ℕ) (x : ℕ) → x ≢ b → with_period s b p x ≡ s x
with_period-other s b p x n = ap (λ y. cond y p (s x)) (other-eq x b n)

by_block-set : (periods : List (Option ℕ)) (b : ℕ) (p : Option ℕ) (x : ℕ) → b < length periods → with_period (by_block periods) b p x ≡ by_block (slice_set periods b p) x
by_block-set periods b p x below =
    elim (eqb_tells x b) [
      | inl here ↦
          ap (λ y. cond y p (by_block periods x)) here.0
          ∙ subst (λ (y : ℕ). p ≡ by_block (slice_set periods b p) y) (sym here.1) (sym (get_or-set_same periods b p None below))
      | inr there ↦ ap (λ y. cond y p (by_block periods x)) there.0 ∙ sym (get_or-set_other periods b x p None there.1)
    ]

-- totals of a list with one item replaced
pub totals-set : (pit : Pit) (periods : List (Option ℕ)) (b : ℕ) (p : Option ℕ) (loads : List ℤ) (sum : ℤ) → b < length periods
    → AreTotals pit (with_period (by_block periods) b p) loads sum → AreTotals pit (by_block (slice_set periods b p)) loads sum
totals-set pit periods b p loads sum below are = record {
  each = λ r t lr lt. are.each r t lr lt ∙ same-load pit (with_period (by_block periods) b p) (by_block (slice_set periods b p)) r t (λ x _. by_block-set periods b p x below);
  value = are.value ∙ same-value pit (with_period (by_block periods) b p) (by_block (slice_set periods b p)) (λ x _. by_block-set periods b p x below);
}

-- ---- a sum of which one term changes

total-changed : (f g : ℕ → ℤ) (b n : ℕ) → b < n → ((x : ℕ) → x ≢ b → f x ≡ g x) → total g n +ℤ f b ≡ total f n +ℤ g b
total-changed f g b zero below others = absurd (omega (arith, below))
total-changed f g b (suc n) below others =
    let more : n + 1 ≡ suc n = omega arith in
    let f_more = subst (λ (k : ℕ). total f k ≡ total f n +ℤ f n) more (total-more f n) in
    let g_more = subst (λ (k : ℕ). total g k ≡ total g n +ℤ g n) more (total-more g n) in
    elim (eqb_tells n b) [
      | inl here ↦
          let rest = total-same f g n (λ x l. others x (λ e. absurd (omega (arith, e, l, here.1)))) in
          let fb = ap f here.1 in
          let gb = ap g here.1 in
          omega (arith, ints, f_more, g_more, rest, fb, gb)
      | inr there ↦
          let rest = total-changed f g b n (omega (arith, below, there.1)) others in
          let last = others n there.1 in
          omega (arith, ints, f_more, g_more, rest, last)
    ]

total-within : (f : ℕ → ℤ) (m n : ℕ) → ((x : ℕ) → IsWithin m (f x)) → IsWithin (n * m) (total f n)
unfolding total
total-within f m zero each = record { low = omega (arith, ints); high = omega (arith, ints) }
total-within f m (suc n) each =
    let before = total-within f m n each in
    let last = each n in
    record { low = omega (arith, ints, before.low, last.low); high = omega (arith, ints, before.high, last.high) }

-- ---- how large totals are

of_64_bits : (z : ℤ) → FitsSigned w64 z → IsWithin (2 ^ 63) z
of_64_bits z fits = record { low = omega (arith, ints, fits); high = omega (arith, ints, fits) }

coef_in-within : (pairs : List (ℕ × ℤ)) (r : ℕ) → AllByRecursion (λ pair. FitsSigned w64 pair.1) pairs → IsWithin (2 ^ 63) (coef_in pairs r)
coef_in-within [] r each = zero-within (2 ^ 63)
coef_in-within (pair ∷ more) r each =
    elim (nat_eq r pair.0) as (λ x. IsWithin (2 ^ 63) (unwrap_or (cond x (Some pair.1) (lookup (nat_eq r) more)) (pos 0))) [ true ↦ of_64_bits pair.1 each.0 | false ↦ coef_in-within more r each.1 ]

share-within : (pit : Pit) (s : ℕ → Option ℕ) (r t b : ℕ) → IsSound pit → IsWithin (2 ^ 63) (share pit s r t b)
share-within pit s r t b sound =
    let coef = coef_in-within (coefs_of pit b) r (recursion_from_All (λ pair. FitsSigned w64 pair.1) (coefs_of pit b) (sound.coefs b).small) in
    elim (is_in (s b) t) as (λ x. IsWithin (2 ^ 63) (cond x (coef_of pit b r) (pos 0))) [ true ↦ coef | false ↦ zero-within (2 ^ 63) ]

earned-within : (pit : Pit) (b : ℕ) (p : Option ℕ) → IsSound pit → IsWithin (2 ^ 63 * 10 ^ 12) (earned_in pit b p)
earned-within pit b None sound = zero-within (2 ^ 63 * 10 ^ 12)
earned-within pit b (Some t) sound =
    product-within (2 ^ 63) (10 ^ 12) (profit_of pit b) (factor_of pit t) (of_64_bits (profit_of pit b) (sound.profits b)) (omega (arith, ints)) (omega (arith, ints, factor_le pit.rate t))

load-within : (pit : Pit) (s : ℕ → Option ℕ) (r t : ℕ) → IsSound pit → IsWithin (pit.blocks * 2 ^ 63) (load_of pit s r t)
load-within pit s r t sound = total-within (share pit s r t) (2 ^ 63) pit.blocks (λ b. share-within pit s r t b sound)

value-within : (pit : Pit) (s : ℕ → Option ℕ) → IsSound pit → IsWithin (pit.blocks * (2 ^ 63 * 10 ^ 12)) (value_of pit s)
value-within pit s sound = total-within (λ b. earned_in pit b (s b)) (2 ^ 63 * 10 ^ 12) pit.blocks (λ b. earned-within pit b (s b) sound)

-- ---- a block that moves

share-at : (pit : Pit) (s : ℕ → Option ℕ) (r t b : ℕ) (p : Option ℕ) → s b ≡ p → share pit s r t b ≡ cond (is_in p t) (coef_of pit b r) (pos 0)
share-at pit s r t b p is = ap (λ x. cond (is_in x t) (coef_of pit b r) (pos 0)) is

-- a load changes by the block's new share less its old one
load-with : (pit : Pit) (s : ℕ → Option ℕ) (b : ℕ) (p q : Option ℕ) (r t : ℕ) → b < pit.blocks → s b ≡ q
    → load_of pit (with_period s b p) r t +ℤ cond (is_in q t) (coef_of pit b r) (pos 0) ≡ load_of pit s r t +ℤ cond (is_in p t) (coef_of pit b r) (pos 0)
load-with pit s b p q r t below is =
    let changed = total-changed (share pit s r t) (share pit (with_period s b p) r t) b pit.blocks below
    (λ x other. ap (λ y. cond (is_in y t) (coef_of pit x r) (pos 0)) (sym (with_period-other s b p x other))) in
    let before = share-at pit s r t b q is in
    let after = share-at pit (with_period s b p) r t b p (with_period-here s b p) in
    omega (arith, ints, changed, before, after)

value-with : (pit : Pit) (s : ℕ → Option ℕ) (b : ℕ) (p q : Option ℕ) → b < pit.blocks → s b ≡ q
    → value_of pit (with_period s b p) +ℤ earned_in pit b q ≡ value_of pit s +ℤ earned_in pit b p
value-with pit s b p q below is =
    let changed = total-changed (λ x. earned_in pit x (s x)) (λ x. earned_in pit x (with_period s b p x)) b pit.blocks below
    (λ x other. ap (earned_in pit x) (sym (with_period-other s b p x other))) in
    let before = ap (earned_in pit b) is in
    let after = ap (earned_in pit b) (with_period-here s b p) in
    omega (arith, ints, changed, before, after)

is_in-same : (t : ℕ) → is_in (Some t) t ≡ true
is_in-same t = same-eq t t refl

moved-in : (pit : Pit) (old new : ℕ → ℕ → ℤ) (p : Option ℕ) (by : ℕ → ℤ) (r t : ℕ) → r < pit.resources → MovesIn pit old p by new → new r t ≡ old r t +ℤ cond (is_in p t) (by r) (pos 0)
moved-in pit old new None by r t lr moves = omega (arith, ints, moves r t lr)
moved-in pit old new (Some u) by r t lr moves =
    elim (eqb_tells u t) [
      | inl here ↦
          let moved = subst (λ (v : ℕ). new r v ≡ old r v +ℤ by r) here.1 (moves.moved r lr) in
          let one = ap (λ x. cond x (by r) (pos 0)) here.0 in
          omega (arith, ints, moved, one)
      | inr there ↦
          let kept = moves.others r t lr (λ e. there.1 (sym e)) in
          let none = ap (λ x. cond x (by r) (pos 0)) there.0 in
          omega (arith, ints, kept, none)
    ]

-- into a period, or out of it
pub shifted : (pit : Pit) (s : ℕ → Option ℕ) (b : ℕ) (p : Option ℕ) (up : Bool) (old new : ℕ → ℕ → ℤ) → b < pit.blocks → s b ≡ cond up None p → AreLoads pit s old
    → MovesIn pit old p (λ r. signed_coef up (coef_of pit b r)) new → AreLoads pit (with_period s b (cond up p None)) new
shifted pit s b p true old new below is are moves = λ r t lr lt.
    let changed = load-with pit s b p None r t below is in
    let moved = moved-in pit old new p (λ q. coef_of pit b q) r t lr moves in
    omega (arith, ints, changed, are r t lr lt, moved)
shifted pit s b p false old new below is are moves = λ r t lr lt.
    let changed = load-with pit s b None p r t below is in
    let moved = moved-in pit old new p (λ q. neg_ℤ (coef_of pit b q)) r t lr moves in
    let opposite = elim (is_in p t) as (λ x. cond x (neg_ℤ (coef_of pit b r)) (pos 0) +ℤ cond x (coef_of pit b r) (pos 0) ≡ pos 0) [ true ↦ omega (arith, ints) | false ↦ omega (arith, ints) ] in
    omega (arith, ints, changed, are r t lr lt, moved, opposite)

room : (pit : Pit) (s : ℕ → Option ℕ) (b t r : ℕ) (up : Bool) (load : ℤ) → IsSound pit → b < pit.blocks → s b ≡ cond up None (Some t) → load ≡ load_of pit s r t
    → FitsSigned w128 (load +ℤ signed_coef up (coef_of pit b r))
room pit s b t r true load sound below is kept =
    let changed = load-with pit s b (Some t) None r t below is in
    let share = ap (λ x. cond x (coef_of pit b r) (pos 0)) (is_in-same t) in
    let small = load-within pit (with_period s b (Some t)) r t sound in
    omega (arith, ints, changed, share, kept, small.low, small.high, sound.few_blocks)
room pit s b t r false load sound below is kept =
    let changed = load-with pit s b None (Some t) r t below is in
    let share = ap (λ x. cond x (coef_of pit b r) (pos 0)) (is_in-same t) in
    let small = load-within pit (with_period s b None) r t sound in
    omega (arith, ints, changed, share, kept, small.low, small.high, sound.few_blocks)

-- so there is room for a block where it comes to, or where it leaves
pub room-for : (pit : Pit) (s : ℕ → Option ℕ) (b : ℕ) (p : Option ℕ) (up : Bool) (loads : ℕ → ℕ → ℤ) → IsSound pit → b < pit.blocks → s b ≡ cond up None p → AreLoads pit s loads
    → IfSome p (λ t. t < pit.periods) → IfSome p (λ t. (r : ℕ) → r < pit.resources → FitsSigned w128 (loads r t +ℤ signed_coef up (coef_of pit b r)))
room-for pit s b None up loads sound below is are in_range = tt
room-for pit s b (Some t) up loads sound below is are in_range = λ r lr. room pit s b t r up (loads r t) sound below is (are r t lr in_range)

pub taken : (pit : Pit) (s : ℕ → Option ℕ) (b : ℕ) (p : Option ℕ) (old new : List ℤ) (sum less : ℤ) → b < pit.blocks → s b ≡ p → AreTotals pit s old sum
    → MovesIn pit (at_cell pit (cell_load old)) p (λ r. signed_coef false (coef_of pit b r)) (at_cell pit (cell_load new)) → less ≡ sum -ℤ earned_in pit b p → AreTotals pit (with_period s b None) new less
taken pit s b p old new sum less below is are moves after = record {
  each = shifted pit s b p false (at_cell pit (cell_load old)) (at_cell pit (cell_load new)) below is are.each moves;
  value = let changed = value-with pit s b None p below is in omega (arith, ints, changed, are.value, after);
}

pub sum-out : (pit : Pit) (s : ℕ → Option ℕ) (b : ℕ) (p : Option ℕ) (sum : ℤ) → IsSound pit → b < pit.blocks → s b ≡ p → sum ≡ value_of pit s → FitsSigned w128 (sum -ℤ earned_in pit b p)
sum-out pit s b p sum sound below is kept =
    let changed = value-with pit s b None p below is in
    let small = value-within pit (with_period s b None) sound in
    omega (arith, ints, changed, kept, small.low, small.high, sound.few_blocks)

pub put : (pit : Pit) (s : ℕ → Option ℕ) (b : ℕ) (p : Option ℕ) (old new : List ℤ) (sum more : ℤ) → b < pit.blocks → s b ≡ None → AreTotals pit s old sum
    → MovesIn pit (at_cell pit (cell_load old)) p (λ r. signed_coef true (coef_of pit b r)) (at_cell pit (cell_load new)) → more ≡ sum +ℤ earned_in pit b p → AreTotals pit (with_period s b p) new more
put pit s b p old new sum more below is are moves after = record {
  each = shifted pit s b p true (at_cell pit (cell_load old)) (at_cell pit (cell_load new)) below is are.each moves;
  value = let changed = value-with pit s b p None below is in omega (arith, ints, changed, are.value, after);
}

pub sum-in : (pit : Pit) (s : ℕ → Option ℕ) (b : ℕ) (p : Option ℕ) (sum : ℤ) → IsSound pit → b < pit.blocks → s b ≡ None → sum ≡ value_of pit s → FitsSigned w128 (sum +ℤ earned_in pit b p)
sum-in pit s b p sum sound below is kept =
    let changed = value-with pit s b p None below is in
    let small = value-within pit (with_period s b p) sound in
    omega (arith, ints, changed, kept, small.low, small.high, sound.few_blocks)

-- ---- tallies

-- the period of a block is in range
pub period-in_range : (pit : Pit) (tally : Tallied) (b : ℕ) (p : Option ℕ) → IsTally pit tally → b < pit.blocks → by_block tally.periods b ≡ p → IfSome p (λ t. t < pit.periods)
period-in_range pit tally b p is below has =
    subst (λ (q : Option ℕ). IfSome q (λ t. t < pit.periods)) has (is.in_range b None (omega (arith, below, is.each_period)))

-- a tally with one block's period replaced, whose totals are those of the schedule
pub tally-set : (pit : Pit) (old : Tallied) (b : ℕ) (p : Option ℕ) (loads : List ℤ) (worth : ℤ) → IsTally pit old → b < pit.blocks → IfSome p (λ t. t < pit.periods)
    → length loads ≡ length old.loads → AreTotals pit (with_period (by_block old.periods) b p) loads worth
    → IsTally pit (record { periods = slice_set old.periods b p; loads = loads; worth = worth })
tally-set pit old b p loads worth is below in_range len totals = record {
  each_period = length-set old.periods b p ∙ is.each_period;
  in_range = All-set (λ period. IfSome period (λ t. t < pit.periods)) old.periods b p in_range is.in_range;
  each_load = len ∙ is.each_load;
  totals = totals-set pit old.periods b p loads worth (omega (arith, below, is.each_period)) totals;
}

-- no block has a period
pub tally-none : (pit : Pit) → IsTally pit (record { periods = replicate pit.blocks None; loads = replicate (pit.periods * pit.resources) (pos 0); worth = pos 0 })
tally-none pit = record {
  each_period = length-replicate pit.blocks None;
  in_range = All-replicate (λ period. IfSome period (λ t. t < pit.periods)) pit.blocks None tt;
  each_load = length-replicate (pit.periods * pit.resources) (pos 0);
  totals = record {
    each = λ r t lr lt.
        get_or-replicate (pit.periods * pit.resources) (t * pit.resources + r) (pos 0) (pos 0) (omega (arith, mul-add-lt t pit.resources r pit.periods lt lr))
        ∙ sym (total-same (share pit (by_block (replicate pit.blocks None)) r t) (λ b. pos 0) pit.blocks (λ b below. ap (λ s. cond (is_in s t) (coef_of pit b r) (pos 0)) (none b below)) ∙ total-nothing pit.blocks);
    value = sym (total-same (λ b. earned_in pit b (by_block (replicate pit.blocks None) b)) (λ b. pos 0) pit.blocks (λ b below. ap (earned_in pit b) (none b below)) ∙ total-nothing pit.blocks);
  };
}
  where
    none : (b : ℕ) → b < pit.blocks → by_block (replicate pit.blocks None) b ≡ None
    none b below = get_or-replicate pit.blocks b None None below
