-- One more block of those that are mined.
use Rattle.std.proofs.Common.{◌≡◌, ℕ, ◌+◌, ◌*◌, ◌<◌, ◌^◌, pos, ◌+ℤ◌, FitsSigned, cond, List, length-set, Option, Some, None, refl, sym, ap, subst, ◌∙◌, arith, inl, inr}
use Rattle.std.specs.Prelude.{slice_set, replicate, nat_eq}
use Rattle.std.specs.Int.{w128}
use Rattle.std.proofs.lemmas.Int.{ints}
use Rattle.std.proofs.lemmas.List.{get_or-set_same, get_or-set_other, get_or-replicate, length-replicate}
use Rattle.std.proofs.lemmas.Bool.Decides.{eqb_tells}
use Rattle.pit_model.specs.Pit.{Pit, IsSound}
use Rattle.pit_plan.specs.Sums.{total}
use Rattle.pit_plan.specs.Schedule.{is_in, earned_in}
use Rattle.pit_table.specs.declared.mined.Mined.{Mined}
use Rattle.pit_table.specs.Rows.{addend}
use Rattle.pit_table.specs.Inside.Mined.{AreMined, mined_at, nothing_mined}
use Rattle.pit_table.proofs.Totals.{total-more}
use Rattle.pit_step.proofs.CallerLemmas.{count-more}
use Rattle.pit_table.proofs.Counts.{count-le}
use Rattle.pit_table.proofs.Bounds.{total-within, addend-bounded}

pub none-mined : (pit : Pit) (schedule : ℕ → Option ℕ) → AreMined pit schedule 0 (replicate pit.periods nothing_mined)
unfolding total
none-mined pit schedule = record {
  each = length-replicate pit.periods nothing_mined;
  blocks = λ t below. ap (λ (m : Mined). m.blocks) (get_or-replicate pit.periods t nothing_mined nothing_mined below);
  value = λ t below. ap (λ (m : Mined). m.value) (get_or-replicate pit.periods t nothing_mined nothing_mined below);
}

module _ (pit : Pit) (schedule : ℕ → Option ℕ) (b : ℕ) where
  -- a block without a period
  pub mined-none : (mined : List Mined) → schedule b ≡ None → AreMined pit schedule b mined → AreMined pit schedule (b + 1) mined
  mined-none mined none are = record {
    each = are.each;
    blocks = λ t below.
        let more = count-more (λ k. is_in (schedule k) t) b in
        let out = ap {B = ℕ} (λ (p : Option ℕ). cond (is_in p t) 1 0) none in
        omega (arith, more, out, are.blocks t below);
    value = λ t below.
        let more = total-more (addend pit schedule t) b in
        let out : addend pit schedule t b ≡ pos 0 = ap (λ (p : Option ℕ). cond (is_in p t) (earned_in pit b p) (pos 0)) none in
        omega (arith, ints, more, out, are.value t below);
  }

  -- a block in a period
  pub mined-one : (mined : List Mined) (u : ℕ) (one : Mined) → schedule b ≡ Some u → u < pit.periods → AreMined pit schedule b mined → one.blocks ≡ (mined_at mined u).blocks + 1
      → one.value ≡ (mined_at mined u).value +ℤ earned_in pit b (Some u) → AreMined pit schedule (b + 1) (slice_set mined u one)
  mined-one mined u one some within are blocks value = record {
    each = length-set mined u one ∙ are.each;
    blocks = λ t below.
        let more = count-more (λ k. is_in (schedule k) t) b in
        let term = ap {B = ℕ} (λ (p : Option ℕ). cond (is_in p t) 1 0) some in
        elim (eqb_tells u t) [
          | inl here ↦
              let same = subst (λ (v : ℕ). mined_at (slice_set mined u one) v ≡ one) here.1 (get_or-set_same mined u one nothing_mined (omega (arith, within, are.each))) in
              let old = subst (λ (v : ℕ). one.blocks ≡ (mined_at mined v).blocks + 1) here.1 blocks in
              let now = ap (λ (m : Mined). m.blocks) same in
              let yes = ap {B = ℕ} (λ x. cond x 1 0) here.0 in
              omega (arith, more, term, yes, old, now, are.blocks t below)
          | inr there ↦
              let same = ap (λ (m : Mined). m.blocks) (get_or-set_other mined u t one nothing_mined (λ e. there.1 (sym e))) in
              let no = ap {B = ℕ} (λ x. cond x 1 0) there.0 in
              omega (arith, more, term, no, same, are.blocks t below)
        ];
    value = λ t below.
        let more = total-more (addend pit schedule t) b in
        let term : addend pit schedule t b ≡ cond (nat_eq u t) (earned_in pit b (Some u)) (pos 0) = ap (λ (p : Option ℕ). cond (is_in p t) (earned_in pit b p) (pos 0)) some in
        elim (eqb_tells u t) [
          | inl here ↦
              let same = subst (λ (v : ℕ). mined_at (slice_set mined u one) v ≡ one) here.1 (get_or-set_same mined u one nothing_mined (omega (arith, within, are.each))) in
              let old = subst (λ (v : ℕ). one.value ≡ (mined_at mined v).value +ℤ earned_in pit b (Some u)) here.1 value in
              let now = ap (λ (m : Mined). m.value) same in
              let yes = ap (λ x. cond x (earned_in pit b (Some u)) (pos 0)) here.0 in
              omega (arith, ints, more, term, yes, old, now, are.value t below)
          | inr there ↦
              let same = ap (λ (m : Mined). m.value) (get_or-set_other mined u t one nothing_mined (λ e. there.1 (sym e))) in
              let no = ap (λ x. cond x (earned_in pit b (Some u)) (pos 0)) there.0 in
              omega (arith, ints, more, term, no, same, are.value t below)
        ];
  }

  -- ---- there is room for it

  pub count-room : (mined : List Mined) (t : ℕ) → IsSound pit → t < pit.periods → b < pit.blocks → AreMined pit schedule b mined → (mined_at mined t).blocks + 1 < 2 ^ 32
  count-room mined t sound within below are =
      let few = count-le (λ k. is_in (schedule k) t) b in
      omega (arith, few, are.blocks t within, below, sound.few_blocks)

  pub value-room : (mined : List Mined) (t : ℕ) → IsSound pit → t < pit.periods → b < pit.blocks → schedule b ≡ Some t → AreMined pit schedule b mined
      → FitsSigned w128 ((mined_at mined t).value +ℤ earned_in pit b (Some t))
  value-room mined t sound within below some are =
      let small = total-within (addend pit schedule t) (2 ^ 63 * 10 ^ 12) (b + 1) (λ k. addend-bounded pit k (schedule k) (is_in (schedule k) t) sound) in
      let more = total-more (addend pit schedule t) b in
      let term : addend pit schedule t b ≡ earned_in pit b (Some t) =
      ap (λ (p : Option ℕ). cond (is_in p t) (earned_in pit b p) (pos 0)) some ∙ elim (eqb_tells t t) [ inl here ↦ ap (λ x. cond x (earned_in pit b (Some t)) (pos 0)) here.0 | inr there ↦ absurd (there.1 refl) ] in
      omega (arith, ints, small.low, small.high, more, term, are.value t within, below, sound.few_blocks)
