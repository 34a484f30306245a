-- What writes touch, and that nothing else changes.
use Rattle.std.proofs.Common.{◌≡◌, ℕ, ◌+◌, ◌*◌, ◌/◌, ◌%◌, ◌<◌, ◌≤◌, ◌⊎◌, ◌≢◌, Bool, true, false, cond, ℤ, pos, ◌+ℤ◌, List, [], ◌∷◌, Option, Some, None, length, take, get_or, refl, sym, ap, subst, ◌∙◌, arith, inl, inr}
use Rattle.std.specs.Prelude.{nat_eq, unwrap_or, is_some}
use Rattle.std.specs.Map.{lookup}
use Rattle.indexmap.specs.IndexMap.{insert_entry}
use Rattle.std.proofs.lemmas.Bool.{cond-true, cond-false, cases_Bool, true≢false}
use Rattle.std.proofs.lemmas.Bool.Decides.{eqb_tells}
use Rattle.std.proofs.lemmas.Option.{same_Some}
use Rattle.std.proofs.lemmas.List.{take_all}
use Rattle.std.specs.Prelude.{IfNone, IfSome}
use Rattle.pit_num.specs.Least.{ComesBefore, IsLeast, IsLeastOf}
use Rattle.pit_num.proofs.CallerLemmas.{least-same}
use Rattle.pit_model.specs.Pit.{Pit, cell_of}
use Rattle.pit_plan.specs.Schedule.{Writes, by_block, load_of, in_order, is_within}
use Rattle.pit_plan.specs.Inside.Totals.{Tallied, IsTally, AreLoads, Raises, cell_load, with_period}
use Rattle.pit_plan.specs.Limits.{at_cell}
use Rattle.pit_plan.specs.Inside.Touched.{overlaid_item, lesser_of, IsNamed, IsOutNear, IsOverAt, IsLeastOver, AreMoved, SetsCell, LooksAt}
use Rattle.pit_plan.specs.Breaches.{IsOrdered, IsUnderLimits, IsOutOfOrder, IsOverLimit, IsFirstBreach}
use Rattle.pit_plan.specs.declared.breach.Breach.TheVariants.{Precedence, Over}
use Rattle.pit_plan.specs.declared.breach.Breach.{Breach}
use Rattle.pit_plan.proofs.Least.{least-lesser}
use Rattle.pit_plan.proofs.Good.{within-from_none}
use Rattle.pit_plan.proofs.Same.{same-load}
use Rattle.pit_plan.proofs.Named.{Once, absent-before, overlaid_item-more, named-keeps, named-own, named-before, same-eq, other-eq}
use Rattle.pit_plan.proofs.Cells.{pair-known}
use Rattle.pit_model.proofs.CallerLemmas.{cells_apart, same_resource}

-- ---- a cell that is set

-- ---- a cell is set by a write

at-written : (cells : List (ℕ × ℤ)) (cell : ℕ) (load : ℤ) → lookup (nat_eq cell) (insert_entry nat_eq cells cell load) ≡ Some load
at-written [] cell load = cond-true _ _ _ (same-eq cell cell refl)
at-written (p ∷ ps) cell load = by (nat_eq cell p.0) refl (at-written ps cell load)
  where
    by : (t : Bool) → nat_eq cell p.0 ≡ t → lookup (nat_eq cell) (insert_entry nat_eq ps cell load) ≡ Some load
        → lookup (nat_eq cell) (cond t ((p.0, load) ∷ ps) (p ∷ insert_entry nat_eq ps cell load)) ≡ Some load
    by true is later = cond-true _ _ _ is
    by false is later = cond-false _ _ _ is ∙ later

others-written : (cells : List (ℕ × ℤ)) (cell : ℕ) (load : ℤ) (k : ℕ) → cell ≢ k → lookup (nat_eq k) (insert_entry nat_eq cells cell load) ≡ lookup (nat_eq k) cells
others-written [] cell load k other = cond-false _ _ _ (other-eq k cell (λ e. other (sym e)))
others-written (p ∷ ps) cell load k other = by (nat_eq cell p.0) refl (others-written ps cell load k other)
  where
    by : (t : Bool) → nat_eq cell p.0 ≡ t → lookup (nat_eq k) (insert_entry nat_eq ps cell load) ≡ lookup (nat_eq k) ps
        → lookup (nat_eq k) (cond t ((p.0, load) ∷ ps) (p ∷ insert_entry nat_eq ps cell load)) ≡ lookup (nat_eq k) (p ∷ ps)
    by true is later =
        elim (eqb_tells cell p.0) [
          | inl here ↦ cond-false _ _ _ (other-eq k p.0 (λ e. other (here.1 ∙ sym e))) ∙ sym (cond-false _ _ _ (other-eq k p.0 (λ e. other (here.1 ∙ sym e))))
          | inr there ↦ absurd (true≢false (sym is ∙ there.0))
        ]
    by false is later = ap (λ (x : Option ℤ). cond (nat_eq k p.0) (Some p.1) x) later

pub sets-written : (cells : List (ℕ × ℤ)) (cell : ℕ) (load : ℤ) → SetsCell cells cell load (insert_entry nat_eq cells cell load)
sets-written cells cell load k =
    elim (eqb_tells cell k) [
      | inl here ↦ subst (λ (n : ℕ). lookup (nat_eq n) (insert_entry nat_eq cells cell load) ≡ Some load) here.1 (at-written cells cell load) ∙ sym (cond-true _ _ _ here.0)
      | inr there ↦ others-written cells cell load k there.1 ∙ sym (cond-false _ _ _ there.0)
    ]

pub raises-cell : (kept : ℕ → ℤ) (cells new : List (ℕ × ℤ)) (cell : ℕ) (by : ℤ) → SetsCell cells cell (overlaid_item kept cells cell +ℤ by) new → Raises (overlaid_item kept cells) cell by (overlaid_item kept new)
raises-cell kept cells new cell by sets k =
    ap (λ (x : Option ℤ). unwrap_or x (kept k)) (sets k)
    ∙ elim (nat_eq cell k) as (λ t. unwrap_or (cond t (Some (overlaid_item kept cells cell +ℤ by)) (lookup (nat_eq k) cells)) (kept k) ≡ cond t (overlaid_item kept cells cell +ℤ by) (overlaid_item kept cells k)) [
      | true ↦ refl
      | false ↦ refl
    ]

pub named-set : (cells new : List (ℕ × ℤ)) (cell n : ℕ) (load : ℤ) → SetsCell cells cell load new → cell < n → ((k : ℕ) → IsNamed cells k → k < n) → (k : ℕ) → IsNamed new k → k < n
named-set cells new cell n load sets below each k is =
    elim (eqb_tells cell k) [
      | inl here ↦ omega (arith, here.1, below)
      | inr there ↦ each k (sym (ap (λ (x : Option ℤ). is_some x) (sets k ∙ cond-false _ _ _ there.0)) ∙ is)
    ]

-- ---- a write more

-- the block of the next write has the period that it had
pub overlaid_item-next : (periods : List (Option ℕ)) (writes : Writes) (k : ℕ) → Once writes → k < length writes
    → overlaid_item (by_block periods) (take k writes) (get_or writes k (0, None)).0 ≡ by_block periods (get_or writes k (0, None)).0
overlaid_item-next periods writes k once within =
    ap (λ (x : Option (Option ℕ)). unwrap_or x (by_block periods (get_or writes k (0, None)).0)) (absent-before writes k (0, None) once within)

-- once its block is out of that and in its new one, the loads are those after the write
pub loads-next : (pit : Pit) (periods : List (Option ℕ)) (writes : Writes) (k : ℕ) (loads : ℕ → ℕ → ℤ) → Once writes → k < length writes
    → AreLoads pit (with_period (with_period (overlaid_item (by_block periods) (take k writes)) (get_or writes k (0, None)).0 None) (get_or writes k (0, None)).0 (get_or writes k (0, None)).1) loads
    → AreLoads pit (overlaid_item (by_block periods) (take (k + 1) writes)) loads
loads-next pit periods writes k loads once within are = λ r t lr lt. are r t lr lt ∙ same-load pit _ (overlaid_item (by_block periods) (take (k + 1) writes)) r t (λ x _. sym (overlaid_item-more (by_block periods) writes k x (0, None) once within ∙ sym (twice x)))
  where
    twice : (x : ℕ) → with_period (with_period (overlaid_item (by_block periods) (take k writes)) (get_or writes k (0, None)).0 None) (get_or writes k (0, None)).0 (get_or writes k (0, None)).1 x
        ≡ cond (nat_eq x (get_or writes k (0, None)).0) (get_or writes k (0, None)).1 (overlaid_item (by_block periods) (take k writes) x)
    twice x =
        elim (nat_eq x (get_or writes k (0, None)).0) as (λ t. cond t (get_or writes k (0, None)).1 (cond t None (overlaid_item (by_block periods) (take k writes) x)) ≡ cond t (get_or writes k (0, None)).1 (overlaid_item (by_block periods) (take k writes) x)) [
          | true ↦ refl
          | false ↦ refl
        ]

-- ---- pairs that are out of order

-- one more written block brings the pairs that it is of
pub out-next : (pit : Pit) (s : ℕ → Option ℕ) (writes : Writes) (k w : ℕ) (least before behind : Option (ℕ × ℕ)) → k < length writes → w ≡ (get_or writes k (0, None)).0
    → IsLeast ComesBefore (IsOutNear pit s (take k writes)) least
    → IsLeast ComesBefore (λ p. IsOutOfOrder pit s p × (p.0 ≡ w)) before → IsLeast ComesBefore (λ p. IsOutOfOrder pit s p × (p.1 ≡ w)) behind
    → IsLeast ComesBefore (IsOutNear pit s (take (k + 1) writes)) (lesser_of (lesser_of least before) behind)
out-next pit s writes k w least before behind within is near first last =
    least-lesser NearOrFirst (λ p. IsOutOfOrder pit s p × (p.1 ≡ w)) (IsOutNear pit s (take (k + 1) writes)) (lesser_of least before) behind
    (least-lesser (IsOutNear pit s (take k writes)) (λ p. IsOutOfOrder pit s p × (p.0 ≡ w)) NearOrFirst least before near first (λ p h. inl h) (λ p h. inr h) (λ p h. h)) last
    (λ p h. elim h [
      | inl old ↦ (old.0, elim old.1 [ inl b ↦ inl (named-keeps writes k p.0 (0, None) within b) | inr b ↦ inr (named-keeps writes k p.1 (0, None) within b) ])
      | inr here ↦ (here.0, inl (named-own writes k p.0 (0, None) within (here.1 ∙ is)))
    ])
    (λ p h. (h.0, inr (named-own writes k p.1 (0, None) within (h.1 ∙ is))))
    (λ p h. elim h.1 [
      | inl b ↦ elim (named-before writes k p.0 (0, None) within b) [ inl old ↦ inl (inl (h.0, inl old)) | inr here ↦ inl (inr (h.0, here ∙ sym is)) ]
      | inr b ↦ elim (named-before writes k p.1 (0, None) within b) [ inl old ↦ inl (inl (h.0, inr old)) | inr here ↦ inr (h.0, here ∙ sym is) ]
    ])
  where
    NearOrFirst : ℕ × ℕ → Type 0
    NearOrFirst p = IsOutNear pit s (take k writes) p ⊎ (IsOutOfOrder pit s p × (p.0 ≡ w))

-- pairs that are out of order in a schedule are so in an equal one
out-same : (pit : Pit) (s t : ℕ → Option ℕ) (p : ℕ × ℕ) → ((b : ℕ) → s b ≡ t b) → IsOutOfOrder pit s p → IsOutOfOrder pit t p
out-same pit s t p same out = (out.0, ap (λ (x : Option ℕ). in_order x (t p.1)) (sym (same p.0)) ∙ (ap (λ (x : Option ℕ). in_order (s p.0) x) (sym (same p.1)) ∙ out.1))

-- and so is the least of those near the writes
pub out_near-same : (pit : Pit) (s t : ℕ → Option ℕ) (writes : Writes) (found : Option (ℕ × ℕ)) → ((b : ℕ) → s b ≡ t b) → IsLeast ComesBefore (IsOutNear pit s writes) found → IsLeast ComesBefore (IsOutNear pit t writes) found
out_near-same pit s t writes found same least =
    least-same ComesBefore (IsOutNear pit s writes) (IsOutNear pit t writes) found least
    (λ p near. (out-same pit s t p same near.0, near.1)) (λ p near. (out-same pit t s p (λ b. sym (same b)) near.0, near.1))

-- a number that the list doesn't name has what was there
overlaid_item-absent : {X : Type 0} (before : ℕ → X) (pairs : List (ℕ × X)) (k : ℕ) → is_some (lookup (nat_eq k) pairs) ≡ false → overlaid_item before pairs k ≡ before k
overlaid_item-absent {X = X} before pairs k none = by (lookup (nat_eq k) pairs) none
  where
    by : (x : Option X) → is_some x ≡ false → unwrap_or x (before k) ≡ before k
    by None e = refl
    by (Some v) e = absurd (true≢false e)

-- where no block is written no pair is out of order that wasn't
near-out : (pit : Pit) (s : ℕ → Option ℕ) (writes : Writes) (p : ℕ × ℕ) → IsOrdered pit s → IsOutOfOrder pit (overlaid_item s writes) p → IsOutNear pit (overlaid_item s writes) writes p
near-out pit s writes p ordered out =
    elim (cases_Bool (is_some (lookup (nat_eq p.0) writes))) [
      | inl named ↦ (out, inl named)
      | inr kept ↦
          elim (cases_Bool (is_some (lookup (nat_eq p.1) writes))) [
            | inl named ↦ (out, inr named)
            | inr also ↦
                let old : in_order (s p.0) (s p.1) ≡ false =
                ap (λ (x : Option ℕ). in_order x (s p.1)) (sym (overlaid_item-absent s writes p.0 kept))
                ∙ (ap (λ (x : Option ℕ). in_order (overlaid_item s writes p.0) x) (sym (overlaid_item-absent s writes p.1 also)) ∙ out.1) in
                absurd (true≢false (sym (ordered p.0 p.1 out.0) ∙ old))
          ]
    ]

-- so the least of the pairs near the writes is the least of all
pub least-after : (pit : Pit) (s : ℕ → Option ℕ) (writes : Writes) (found : Option (ℕ × ℕ)) → IsOrdered pit s → IsLeast ComesBefore (IsOutNear pit (overlaid_item s writes) writes) found
    → IsLeast ComesBefore (IsOutOfOrder pit (overlaid_item s writes)) found
least-after pit s writes found ordered least =
    least-same ComesBefore (IsOutNear pit (overlaid_item s writes) writes) (IsOutOfOrder pit (overlaid_item s writes)) found least (λ p near. near.0) (λ p out. near-out pit s writes p ordered out)

-- ---- cells

-- the period and the resource of a cell
pair-of : (pit : Pit) (cell x y : ℕ) → cell < pit.periods * pit.resources → y < pit.resources → cell_of pit y x ≡ cell → (x ≡ cell / pit.resources) × (y ≡ cell % pit.resources)
pair-of pit cell x y within ly is =
    let known = pair-known pit cell within in
    let same = cells_apart pit.resources y (cell % pit.resources) x (cell / pit.resources) ly known.0 (is ∙ sym known.2) in
    (same, same_resource pit.resources (cell % pit.resources) y (cell / pit.resources) x (known.2 ∙ sym is) (sym same))

-- a cell whose load is within its limit is not over it
pub cell-within : (pit : Pit) (limits : ℕ → Option ℤ) (cells : List (ℕ × ℤ)) (cell : ℕ) (load limit : ℤ) → lookup (nat_eq cell) cells ≡ Some load → limits cell ≡ Some limit
    → is_within load (Some limit) ≡ true → (p : ℕ × ℕ) → IsOverAt pit (at_cell pit limits) cells p → cell_of pit p.1 p.0 ≡ cell → ⊥
cell-within pit limits cells cell load limit at upper fits p over is =
    let same : over.2.0 ≡ load = same_Some _ _ (sym over.2.1 ∙ (ap (λ (k : ℕ). lookup (nat_eq k) cells) is ∙ at)) in
    let limit_is : at_cell pit limits p.1 p.0 ≡ Some limit = ap limits is ∙ upper in
    true≢false (sym fits ∙ (ap (λ (z : ℤ). is_within z (Some limit)) (sym same) ∙ (ap (λ (l : Option ℤ). is_within over.2.0 l) (sym limit_is) ∙ over.2.2)))

-- nor is one that has no limit
pub cell-unlimited : (pit : Pit) (limits : ℕ → Option ℤ) (cells : List (ℕ × ℤ)) (cell : ℕ) → limits cell ≡ None → (p : ℕ × ℕ) → IsOverAt pit (at_cell pit limits) cells p → cell_of pit p.1 p.0 ≡ cell → ⊥
cell-unlimited pit limits cells cell upper p over is =
    let limit_is : at_cell pit limits p.1 p.0 ≡ None = ap limits is ∙ upper in
    true≢false (ap (λ (l : Option ℤ). is_within over.2.0 l) (sym limit_is) ∙ over.2.2)

-- and one whose load is above its limit is
pub cell-over : (pit : Pit) (limits : ℕ → Option ℤ) (cells : List (ℕ × ℤ)) (cell m n : ℕ) (load limit : ℤ) → m ≡ pit.resources → n ≡ pit.resources → cell < pit.periods * pit.resources
    → lookup (nat_eq cell) cells ≡ Some load → limits cell ≡ Some limit → is_within load (Some limit) ≡ false
    → IsLeastOf ComesBefore (λ p. IsOverAt pit (at_cell pit limits) cells p × (cell_of pit p.1 p.0 ≡ cell)) (cell / m, cell % n)
cell-over pit limits cells cell m n load limit m_is n_is within at upper fails = rw (m_is, n_is) (record {
  passes = ((known.1, known.0, (load, ap (λ (k : ℕ). lookup (nat_eq k) cells) known.2 ∙ at, ap (is_within load) (ap limits known.2 ∙ upper) ∙ fails)), known.2);
  first = λ p is before.
      let there = pair-of pit cell p.0 p.1 within is.0.1 is.1 in
      elim before [ inl less ↦ omega (arith, less, there.0) | inr same ↦ omega (arith, same.1, there.1) ];
})
  where
    known : (cell % pit.resources < pit.resources) × (cell / pit.resources < pit.periods) × (cell_of pit (cell % pit.resources) (cell / pit.resources) ≡ cell)
    known = pair-known pit cell within

-- one more cell
pub over-next-cell : (pit : Pit) (lim : ℕ → ℕ → Option ℤ) (cells : List (ℕ × ℤ)) (i : ℕ) (least found : Option (ℕ × ℕ)) → i < length cells
    → IsLeast ComesBefore (λ p. IsOverAt pit lim cells p × IsNamed (take i cells) (cell_of pit p.1 p.0)) least
    → IsLeast ComesBefore (λ p. IsOverAt pit lim cells p × (cell_of pit p.1 p.0 ≡ (get_or cells i (0, pos 0)).0)) found
    → IsLeast ComesBefore (λ p. IsOverAt pit lim cells p × IsNamed (take (i + 1) cells) (cell_of pit p.1 p.0)) (lesser_of least found)
over-next-cell pit lim cells i least found within before here =
    least-lesser (λ p. IsOverAt pit lim cells p × IsNamed (take i cells) (cell_of pit p.1 p.0)) (λ p. IsOverAt pit lim cells p × (cell_of pit p.1 p.0 ≡ (get_or cells i (0, pos 0)).0))
    (λ p. IsOverAt pit lim cells p × IsNamed (take (i + 1) cells) (cell_of pit p.1 p.0)) least found before here
    (λ p h. (h.0, named-keeps cells i (cell_of pit p.1 p.0) (0, pos 0) within h.1))
    (λ p h. (h.0, named-own cells i (cell_of pit p.1 p.0) (0, pos 0) within h.1))
    (λ p h. elim (named-before cells i (cell_of pit p.1 p.0) (0, pos 0) within h.1) [ inl old ↦ inl (h.0, old) | inr last ↦ inr (h.0, last) ])

-- each cell is among them all
pub over-all-cells : (pit : Pit) (lim : ℕ → ℕ → Option ℤ) (cells : List (ℕ × ℤ)) (n : ℕ) (least : Option (ℕ × ℕ)) → length cells ≤ n
    → IsLeast ComesBefore (λ p. IsOverAt pit lim cells p × IsNamed (take n cells) (cell_of pit p.1 p.0)) least → IsLeast ComesBefore (IsOverAt pit lim cells) least
over-all-cells pit lim cells n least whole is =
    least-same ComesBefore (λ p. IsOverAt pit lim cells p × IsNamed (take n cells) (cell_of pit p.1 p.0)) (IsOverAt pit lim cells) least is (λ p h. h.0)
    (λ p h. (h, subst (λ (ps : List (ℕ × ℤ)). IsNamed ps (cell_of pit p.1 p.0)) (sym (take_all n cells whole)) (ap (λ (x : Option ℤ). is_some x) h.2.1)))

-- ---- the loads that the writes leave

-- the load of a cell that was moved is that of the schedule after the writes
cell-load : (pit : Pit) (tally : Tallied) (writes : Writes) (kept : List ℤ) (cells : List (ℕ × ℤ)) (r t : ℕ) (load : ℤ) → AreMoved pit tally writes kept cells → r < pit.resources → t < pit.periods
    → lookup (nat_eq (cell_of pit r t)) cells ≡ Some load → load ≡ load_of pit (overlaid_item (by_block tally.periods) writes) r t
cell-load pit tally writes kept cells r t load moved lr lt at = ap (λ (x : Option ℤ). unwrap_or x (cell_load kept (cell_of pit r t))) (sym at) ∙ moved.loads r t lr lt

-- the limits are as before but for cells that are among those that are moved
abbrev pub IsRevisedAt : Pit → (ℕ → ℕ → Option ℤ) → (ℕ → ℕ → Option ℤ) → List (ℕ × ℤ) → Type 0
IsRevisedAt pit old lim cells = (r t : ℕ) → lookup (nat_eq (cell_of pit r t)) cells ≡ None → lim r t ≡ old r t

-- a load that is above its limit was moved, or its limit revised
over-cell : (pit : Pit) (tally : Tallied) (writes : Writes) (kept : List ℤ) (cells : List (ℕ × ℤ)) (old lim : ℕ → ℕ → Option ℤ) (p : ℕ × ℕ) → IsTally pit tally → AreMoved pit tally writes kept cells
    → IsRevisedAt pit old lim cells → IsUnderLimits pit (by_block tally.periods) old → IsOverLimit pit (overlaid_item (by_block tally.periods) writes) lim p → IsOverAt pit lim cells p
over-cell pit tally writes kept cells old lim p is moved revised under over = by (lookup (nat_eq (cell_of pit p.1 p.0)) cells) refl
  where
    by : (x : Option ℤ) → lookup (nat_eq (cell_of pit p.1 p.0)) cells ≡ x → IsOverAt pit lim cells p
    by (Some load) e = (over.0, over.1, (load, e, ap (λ (z : ℤ). is_within z (lim p.1 p.0)) (cell-load pit tally writes kept cells p.1 p.0 load moved over.1 over.0 e) ∙ over.2))
    by None e =
        let loads : load_of pit (by_block tally.periods) p.1 p.0 ≡ load_of pit (overlaid_item (by_block tally.periods) writes) p.1 p.0 =
        sym (is.totals.each p.1 p.0 over.1 over.0)
        ∙ (ap (λ (loads : List ℤ). cell_load loads (cell_of pit p.1 p.0)) (sym moved.same)
        ∙ (ap (λ (x : Option ℤ). unwrap_or x (cell_load kept (cell_of pit p.1 p.0))) (sym e) ∙ moved.loads p.1 p.0 over.1 over.0)) in
        let limit_is = ap (λ (l : Option ℤ). is_within (load_of pit (by_block tally.periods) p.1 p.0) l) (sym (revised p.1 p.0 e)) in
        absurd (true≢false (sym (under p.0 p.1 over.0 over.1) ∙ (limit_is ∙ (ap (λ (z : ℤ). is_within z (lim p.1 p.0)) loads ∙ over.2))))

-- so the least of the moved cells is the least load of all that is above its limit
over-after : (pit : Pit) (tally : Tallied) (writes : Writes) (kept : List ℤ) (cells : List (ℕ × ℤ)) (old lim : ℕ → ℕ → Option ℤ) (found : Option (ℕ × ℕ)) → IsTally pit tally → AreMoved pit tally writes kept cells
    → IsRevisedAt pit old lim cells → IsUnderLimits pit (by_block tally.periods) old → IsLeast ComesBefore (IsOverAt pit lim cells) found
    → IsLeast ComesBefore (IsOverLimit pit (overlaid_item (by_block tally.periods) writes) lim) found
over-after pit tally writes kept cells old lim found is moved revised under least =
    least-same ComesBefore (IsOverAt pit lim cells) (IsOverLimit pit (overlaid_item (by_block tally.periods) writes) lim) found least
    (λ p over. (over.0, over.1, ap (λ (z : ℤ). is_within z (lim p.1 p.0)) (sym (cell-load pit tally writes kept cells p.1 p.0 over.2.0 moved over.1 over.0 over.2.1)) ∙ over.2.2))
    (λ p over. over-cell pit tally writes kept cells old lim p is moved revised under over)

-- ---- cells that are revised

-- loads that are looked at at the revised cells are those that the writes leave
pub moved-looked : (pit : Pit) (tally : Tallied) (writes : Writes) (revised : List (ℕ × Option ℤ)) (kept new_kept : List ℤ) (cells new : List (ℕ × ℤ)) → AreMoved pit tally writes kept cells
    → LooksAt revised kept cells new_kept new → AreMoved pit tally writes new_kept new
moved-looked pit tally writes revised kept new_kept cells new moved looks = record {
  same = looks.same ∙ moved.same;
  loads = λ r t lr lt. ap (λ (ks : List ℤ). overlaid_item (cell_load ks) new (cell_of pit r t)) looks.same ∙ (looks.loads (cell_of pit r t) ∙ moved.loads r t lr lt);
  in_range = λ k is. subst (λ (ks : List ℤ). k < length ks) (sym looks.same) (looks.in_range k is);
}

-- a cell that isn't looked at has the limit that it had
pub revised-looked : (pit : Pit) (limits : ℕ → Option ℤ) (revised : List (ℕ × Option ℤ)) (cells : List (ℕ × ℤ)) → ((k : ℕ) → IsNamed revised k → IsNamed cells k)
    → IsRevisedAt pit (at_cell pit limits) (at_cell pit (overlaid_item limits revised)) cells
revised-looked pit limits revised cells named r t none =
    elim (cases_Bool (is_some (lookup (nat_eq (cell_of pit r t)) revised))) [
      | inl is ↦ absurd (true≢false (sym (named (cell_of pit r t) is) ∙ ap (λ (x : Option ℤ). is_some x) none))
      | inr absent ↦ overlaid_item-absent limits revised (cell_of pit r t) absent
    ]

pub looks-none : (kept : List ℤ) (cells : List (ℕ × ℤ)) → ((k : ℕ) → IsNamed cells k → k < length kept) → LooksAt [] kept cells kept cells
looks-none kept cells below = record {
  same = refl;
  loads = λ k. refl;
  named = λ k is. absurd (cc (is));
  in_range = below;
}

-- one more revised cell is looked at
pub looks-more : (revised : List (ℕ × Option ℤ)) (i : ℕ) (d : ℕ × Option ℤ) (kept now_kept new_kept : List ℤ) (cells now new : List (ℕ × ℤ)) → i < length revised → (get_or revised i d).0 < length kept
    → LooksAt (take i revised) kept cells now_kept now → new_kept ≡ now_kept → SetsCell now (get_or revised i d).0 (overlaid_item (cell_load now_kept) now (get_or revised i d).0) new
    → LooksAt (take (i + 1) revised) kept cells new_kept new
looks-more revised i d kept now_kept new_kept cells now new within below looks stays sets = record {
  same = stays ∙ looks.same;
  loads = λ k. same-load-at k ∙ looks.loads k;
  named = λ k is. elim (named-before revised i k d within is) [
    | inl before ↦ kept-named k (looks.named k before)
    | inr here ↦ ap (λ (x : Option ℤ). is_some x) (sets k ∙ cond-true _ _ _ (same-eq (get_or revised i d).0 k (sym here)))
  ];
  in_range = named-set now new (get_or revised i d).0 (length kept) _ sets below looks.in_range;
}
  where
    at : ℕ
    at = (get_or revised i d).0

    same-load-at : (k : ℕ) → overlaid_item (cell_load kept) new k ≡ overlaid_item (cell_load kept) now k
    same-load-at k =
        elim (eqb_tells at k) [
          | inl here ↦
              ap (λ (x : Option ℤ). unwrap_or x (cell_load kept k)) (sets k ∙ cond-true _ _ _ here.0)
              ∙ (ap (λ (ks : List ℤ). overlaid_item (cell_load ks) now at) looks.same ∙ ap (λ (n : ℕ). overlaid_item (cell_load kept) now n) here.1)
          | inr there ↦ ap (λ (x : Option ℤ). unwrap_or x (cell_load kept k)) (sets k ∙ cond-false _ _ _ there.0)
        ]

    kept-named : (k : ℕ) → IsNamed now k → IsNamed new k
    kept-named k is =
        elim (eqb_tells at k) [
          | inl here ↦ ap (λ (x : Option ℤ). is_some x) (sets k ∙ cond-true _ _ _ here.0)
          | inr there ↦ ap (λ (x : Option ℤ). is_some x) (sets k ∙ cond-false _ _ _ there.0) ∙ is
        ]

-- ---- the first breach that the writes leave

pub over-found : (pit : Pit) (tally : Tallied) (writes : Writes) (kept : List ℤ) (cells : List (ℕ × ℤ)) (old lim : ℕ → ℕ → Option ℤ) (found : Option Breach) → IsTally pit tally → AreMoved pit tally writes kept cells
    → IsRevisedAt pit old lim cells → IsUnderLimits pit (by_block tally.periods) old → IsOrdered pit (overlaid_item (by_block tally.periods) writes)
    → IfNone found (IsLeast ComesBefore (IsOverAt pit lim cells) None) → IfSome found (IsLeastOver pit lim cells) → IsFirstBreach pit (overlaid_item (by_block tally.periods) writes) lim found
over-found pit tally writes kept cells old lim None is moved revised under ordered none some = record {
  ordered = ordered;
  within = within-from_none pit (overlaid_item (by_block tally.periods) writes) lim (over-after pit tally writes kept cells old lim None is moved revised under none);
}
over-found pit tally writes kept cells old lim (Some (Precedence block before)) is moved revised under ordered none some = absurd some
over-found pit tally writes kept cells old lim (Some (Over r t load top)) is moved revised under ordered none some = record {
  ordered = ordered;
  least = over-after pit tally writes kept cells old lim (Some (t, r)) is moved revised under some.0;
  load_is = cell-load pit tally writes kept cells r t load moved some.0.passes.1 some.0.passes.0 some.1;
  limit_is = some.2;
}
