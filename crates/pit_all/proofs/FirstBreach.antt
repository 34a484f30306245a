-- The first of all breaches is the first breach.
use Rattle.std.proofs.Common.{◌≡◌, ℕ, ◌<◌, ℤ, Bool, true, false, List, [], ◌∷◌, ◌++◌, length, map, Option, Some, None, refl, sym, ap, subst, ◌∙◌, arith, inl, inr}
use Rattle.std.specs.Prelude.{int_le, if◌then◌else◌}
use Rattle.std.proofs.lemmas.Bool.{cases_Bool, true≢false}
use Rattle.std.proofs.lemmas.Option.{same_Some}
use Rattle.pit_num.specs.Least.{ComesBefore, IsLeastOf}
use Rattle.pit_num.proofs.CallerLemmas.{least-row}
use Rattle.pit_model.specs.Pit.{Pit, IsSound, preds_of}
use Rattle.pit_plan.specs.Schedule.{load_of, in_order, is_within, IsPred}
use Rattle.pit_plan.specs.Breaches.{IsOutOfOrder, IsOverLimit, IsFirstOver, IsFirstBreach, IsOrdered, IsUnderLimits}
use Rattle.pit_plan.specs.declared.breach.Breach.{Breach}
use Rattle.pit_plan.specs.declared.breach.Breach.TheVariants.{Over}
use Rattle.pit_plan.proofs.CallerLemmas.{pred-known, first_late-least, none-late}
use Rattle.pit_all.specs.declared.out_of_order.OutOfOrder.{OutOfOrder}
use Rattle.pit_all.specs.Breaches.{outs_in, outs_of, over_at, overs_in, overs_of, breach_of, breaches_of, first_of}
use Rattle.pit_all.proofs.First.{IsFirstRow, first-row, IsFirstFailing, first-failing}

-- ---- pairs

module _ (pit : Pit) (s : ℕ → Option ℕ) where
  abbrev pair_at : ℕ → ℕ → OutOfOrder
  pair_at b a = record { block = b; before = a; period = s b; earlier = s a }

  -- of one block
  row-none : (sound : IsSound pit) (b a : ℕ) → first_of (outs_in pit s b) ≡ None → IsPred pit b a → in_order (s b) (s a) ≡ true
  row-none sound b a none is =
      let first = subst (IsFirstFailing (λ x. in_order (s b) (s x)) (pair_at b) (preds_of pit b)) none (first-failing (λ x. in_order (s b) (s x)) (pair_at b) (preds_of pit b)) in
      elim (cases_Bool (in_order (s b) (s a))) [
        | inl kept ↦ kept
        | inr fails ↦ absurd (none-late s (s b) (preds_of pit b) (length (preds_of pit b)) (omega arith) first a (is, fails))
      ]

  row-some : (sound : IsSound pit) (b : ℕ) (x : OutOfOrder) → first_of (outs_in pit s b) ≡ Some x → (x.block ≡ b) × IsLeastOf ◌<◌ (λ a. IsOutOfOrder pit s (b, a)) x.before
  row-some sound b x some =
      let first = subst (IsFirstFailing (λ y. in_order (s b) (s y)) (pair_at b) (preds_of pit b)) some (first-failing (λ y. in_order (s b) (s y)) (pair_at b) (preds_of pit b)) in
      let least = first_late-least s (s b) (preds_of pit b) first.0 (sound.preds b).rising first.1 first.4 first.3 in
      (ap (λ (p : OutOfOrder). p.block) first.2, subst (IsLeastOf ◌<◌ (λ a. IsOutOfOrder pit s (b, a))) (sym (ap (λ (p : OutOfOrder). p.before) first.2)) least)

  -- of all blocks
  pub outs-none : IsSound pit → first_of (outs_of pit s) ≡ None → IsOrdered pit s
  unfolding outs_of
  outs-none sound none b a is =
      let rows = subst (IsFirstRow (outs_in pit s) 0 pit.blocks) none (first-row (outs_in pit s) 0 pit.blocks) in
      let known = pred-known pit b a sound is in
      row-none sound b a (ap first_of (rows b (omega arith) (omega (arith, known.0)))) is

  pub outs-some : IsSound pit → (x : OutOfOrder) → first_of (outs_of pit s) ≡ Some x → IsLeastOf ComesBefore (IsOutOfOrder pit s) (x.block, x.before)
  unfolding outs_of
  outs-some sound x some =
      let rows = subst (IsFirstRow (outs_in pit s) 0 pit.blocks) some (first-row (outs_in pit s) 0 pit.blocks) in
      let row = row-some sound rows.0 x rows.3 in
      subst (λ (b : ℕ). IsLeastOf ComesBefore (IsOutOfOrder pit s) (b, x.before)) (sym row.0)
      (least-row (IsOutOfOrder pit s) rows.0 x.before
      (λ p less out. true≢false (sym (row-none sound p.0 p.1 (ap first_of (rows.4 p.0 (omega arith) less)) out.0) ∙ out.1)) row.1)

-- ---- loads

-- what one load says of its item
over-none : (r t : ℕ) (load : ℤ) (limit : Option ℤ) → over_at r t load limit ≡ [] → is_within load limit ≡ true
over-none r t load None none = refl
over-none r t load (Some top) none =
    elim (cases_Bool (int_le load top)) [
      | inl fits ↦ fits
      | inr over ↦ absurd (no-item (subst (λ (fits : Bool). (if fits then [] else Over r t load top ∷ []) ≡ []) over none))
    ]
  where
    no-item : Over r t load top ∷ [] ≡ [] → ⊥
    no-item same = cc

over-some : (r t : ℕ) (load : ℤ) (limit : Option ℤ) (x : Breach) → first_of (over_at r t load limit) ≡ Some x → (is_within load limit ≡ false) × ((top : ℤ) × (limit ≡ Some top) × (x ≡ Over r t load top))
over-some r t load None x some = cc
over-some r t load (Some top) x some =
    elim (cases_Bool (int_le load top)) [
      | inl fits ↦ absurd (no-item (subst (λ (fits : Bool). first_of (if fits then [] else Over r t load top ∷ []) ≡ Some x) fits some))
      | inr over ↦ (over, (top, refl, same_Some x (Over r t load top) (sym (subst (λ (fits : Bool). first_of (if fits then [] else Over r t load top ∷ []) ≡ Some x) over some))))
    ]
  where
    no-item : ◌≡◌ {A = Option Breach} None (Some x) → ⊥
    no-item same = cc

module _ (pit : Pit) (s : ℕ → Option ℕ) (limit : ℕ → ℕ → Option ℤ) where
  abbrev cell : ℕ → ℕ → List Breach
  cell t r = over_at r t (load_of pit s r t) (limit r t)

  row-under : (t r : ℕ) → first_of (overs_in pit s limit t) ≡ None → r < pit.resources → is_within (load_of pit s r t) (limit r t) ≡ true
  row-under t r none below =
      let cells = subst (IsFirstRow (cell t) 0 pit.resources) none (first-row (cell t) 0 pit.resources) in
      over-none r t (load_of pit s r t) (limit r t) (cells r (omega arith) (omega (arith, below)))

  pub overs-none : first_of (overs_of pit s limit) ≡ None → IsUnderLimits pit s limit
  unfolding overs_of
  overs-none none t r lt lr =
      let rows = subst (IsFirstRow (overs_in pit s limit) 0 pit.periods) none (first-row (overs_in pit s limit) 0 pit.periods) in
      row-under t r (ap first_of (rows t (omega arith) (omega (arith, lt)))) lr

  -- the item of the least cell that is above its limit
  pub overs-some : IsOrdered pit s → (x : Breach) → first_of (overs_of pit s limit) ≡ Some x → IsFirstBreach pit s limit (Some x)
  unfolding overs_of
  overs-some ordered x some =
      let rows = subst (IsFirstRow (overs_in pit s limit) 0 pit.periods) some (first-row (overs_in pit s limit) 0 pit.periods) in
      let t = rows.0 in
      let cells = subst (IsFirstRow (cell t) 0 pit.resources) rows.3 (first-row (cell t) 0 pit.resources) in
      let r = cells.0 in
      let over = over-some r t (load_of pit s r t) (limit r t) x cells.3 in
      let first : IsFirstOver pit s limit r t (load_of pit s r t) over.1.0 =
      record {
        ordered = ordered;
        least = least-row (IsOverLimit pit s limit) t r
            (λ p less out. true≢false (sym (row-under p.0 p.1 (ap first_of (rows.4 p.0 (omega arith) less)) out.1) ∙ out.2))
            (record {
              passes = (omega (arith, rows.2), omega (arith, cells.2), over.0);
              first = λ k out less. true≢false (sym (over-none k t (load_of pit s k t) (limit k t) (cells.4 k (omega arith) less)) ∙ out.2);
            });
        load_is = refl;
        limit_is = over.1.1;
      } in
      subst (λ (y : Breach). IsFirstBreach pit s limit (Some y)) (sym over.1.2) first

  -- ---- both

  pub first-breach : IsSound pit → IsFirstBreach pit s limit (first_of (breaches_of pit s limit))
  first-breach sound = by (outs_of pit s) refl
    where
      overs : IsOrdered pit s → (found : Option Breach) → first_of (overs_of pit s limit) ≡ found → IsFirstBreach pit s limit found
      overs ordered None none = record { ordered = ordered; within = overs-none none }
      overs ordered (Some x) some = overs-some ordered x some

      by : (outs : List OutOfOrder) → outs_of pit s ≡ outs → IsFirstBreach pit s limit (first_of (map breach_of outs ++ overs_of pit s limit))
      by [] none = overs (outs-none pit s sound (ap first_of none)) (first_of (overs_of pit s limit)) refl
      by (x ∷ xs) some = outs-some pit s sound x (ap first_of some)
