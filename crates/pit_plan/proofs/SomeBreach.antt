-- A schedule that isn't good has a first breach.
use Rattle.std.proofs.Common.{◌≡◌, ℕ, suc, ◌<◌, ◌⊎◌, inl, inr, ℤ, Bool, true, false, List, length, get_or, Option, None, Some, refl, arith}
use Rattle.std.specs.Prelude.{nat_eq}
use Rattle.std.specs.Set.{is_member}
use Rattle.std.proofs.lemmas.Bool.{true≢false, cases_Bool}
use Rattle.std.proofs.lemmas.Bool.Decides.{leb_tells, Decides-eqb, not_from_Decides}
use Rattle.std.proofs.lemmas.List.Elements.{Contains-get_or, All-from_get_or, All-contains}
use Rattle.std.proofs.lemmas.Map.Made.{is_member-Decides}
use Rattle.pit_num.specs.Least.{ComesBefore, IsLeast}
use Rattle.pit_num.proofs.CallerLemmas.{least-below, some-least, some-least_pair}
use Rattle.pit_model.specs.Pit.{Pit, preds_of}
use Rattle.pit_plan.proofs.Preds.{pred-listed}
use Rattle.pit_plan.proofs.Good.{ordered-from_none, within-from_none, limit-over}
use Rattle.pit_plan.specs.Schedule.{load_of, in_order, is_within}
use Rattle.pit_plan.specs.Breaches.{IsOrdered, IsOutOfOrder, IsOverLimit, IsFirstBreach}
use Rattle.pit_plan.specs.Inside.Schedule.{IsLate}
use Rattle.pit_plan.specs.declared.breach.Breach.{Breach}
use Rattle.pit_plan.specs.declared.breach.Breach.TheVariants.{Precedence, Over}

is_false : (b : Bool) → (b ≡ false) ⊎ (b ≡ false → ⊥)
is_false true = inr (λ e. true≢false e)
is_false false = inl refl

tells-late : (schedule : ℕ → Option ℕ) (later : Option ℕ) (xs : List ℕ) (a : ℕ) → IsLate schedule later xs a ⊎ (IsLate schedule later xs a → ⊥)
tells-late schedule later xs a =
    elim (is_false (in_order later (schedule a))) [
      | inr kept ↦ inr (λ late. kept late.1)
      | inl fails ↦
          elim (cases_Bool (is_member nat_eq xs a)) [
            | inl is ↦ inl ((is_member-Decides Decides-eqb xs a).0 is, fails)
            | inr isnt ↦ inr (λ late. not_from_Decides (is_member nat_eq xs a) (is_member-Decides Decides-eqb xs a) isnt late.0)
          ]
    ]

-- where a block is late there is a least one
least_late : (schedule : ℕ → Option ℕ) (later : Option ℕ) (xs : List ℕ) (v : ℕ) → IsLate schedule later xs v → (found : Option ℕ) × IsLeast ◌<◌ (IsLate schedule later xs) found
least_late schedule later xs v late =
    elim (least-below (IsLate schedule later xs) (suc v) (tells-late schedule later xs)) [
      | inl none ↦ absurd (none v (omega arith) late)
      | inr found ↦ (Some found.0, found.2)
    ]

-- the blocks are all in order, or there is a least one that isn't
late_in : (schedule : ℕ → Option ℕ) (later : Option ℕ) (xs : List ℕ) → (found : Option ℕ) × IsLeast ◌<◌ (IsLate schedule later xs) found
late_in schedule later xs =
    elim (least-below (λ k. in_order later (schedule (get_or xs k 0)) ≡ false) (length xs) (λ k. is_false (in_order later (schedule (get_or xs k 0))))) [
      | inl each ↦ (
        None,
        λ a late. All-contains (λ y. in_order later (schedule y) ≡ false → ⊥) xs a (All-from_get_or (λ y. in_order later (schedule y) ≡ false → ⊥) xs 0 each) late.0 late.1,
      )
      | inr found ↦ least_late schedule later xs (get_or xs found.0 0) (Contains-get_or xs found.0 0 found.1, found.2.passes)
    ]

-- the least pair that is out of order, or none
some_pair : (pit : Pit) (schedule : ℕ → Option ℕ) → (found : Option (ℕ × ℕ)) × IsLeast ComesBefore (IsOutOfOrder pit schedule) found
some_pair pit schedule =
    some-least_pair (IsOutOfOrder pit schedule) (length pit.preds) (λ b. late_in schedule (schedule b) (preds_of pit b)) (λ p is. pred-listed pit p.0 p.1 is.0)

tells-over : (pit : Pit) (schedule : ℕ → Option ℕ) (limit : ℕ → ℕ → Option ℤ) (p : ℕ × ℕ) → IsOverLimit pit schedule limit p ⊎ (IsOverLimit pit schedule limit p → ⊥)
tells-over pit schedule limit p =
    elim (leb_tells (suc p.0) pit.periods) [
      | inr past ↦ inr (λ over. omega (arith, past.1, over.0))
      | inl period ↦
          elim (leb_tells (suc p.1) pit.resources) [
            | inr past ↦ inr (λ over. omega (arith, past.1, over.1))
            | inl resource ↦
                elim (is_false (is_within (load_of pit schedule p.1 p.0) (limit p.1 p.0))) [
                  | inl fails ↦ inl (period.1, resource.1, fails)
                  | inr fits ↦ inr (λ over. fits over.2)
                ]
          ]
    ]

-- the least load that is above its limit, or none
some_load : (pit : Pit) (schedule : ℕ → Option ℕ) (limit : ℕ → ℕ → Option ℤ) → (found : Option (ℕ × ℕ)) × IsLeast ComesBefore (IsOverLimit pit schedule limit) found
some_load pit schedule limit =
    some-least_pair (IsOverLimit pit schedule limit) pit.periods
    (λ t. some-least (λ r. IsOverLimit pit schedule limit (t, r)) pit.resources (λ r. tells-over pit schedule limit (t, r)) (λ r over. over.1)) (λ p over. over.0)

-- a schedule that is in order is good, or a load is the first that is over its limit
of_load : (pit : Pit) (schedule : ℕ → Option ℕ) (limit : ℕ → ℕ → Option ℤ) (found : Option (ℕ × ℕ)) → IsOrdered pit schedule → IsLeast ComesBefore (IsOverLimit pit schedule limit) found
    → (breach : Option Breach) × IsFirstBreach pit schedule limit breach
of_load pit schedule limit None ordered none = (None, record { ordered = ordered; within = within-from_none pit schedule limit none })
of_load pit schedule limit (Some p) ordered least =
    let top = limit-over (load_of pit schedule p.1 p.0) (limit p.1 p.0) least.passes.2 in
    (Some (Over p.1 p.0 (load_of pit schedule p.1 p.0) top.0), record { ordered = ordered; least = least; load_is = refl; limit_is = top.1 })

of_pair : (pit : Pit) (schedule : ℕ → Option ℕ) (limit : ℕ → ℕ → Option ℤ) (found : Option (ℕ × ℕ)) → IsLeast ComesBefore (IsOutOfOrder pit schedule) found
    → (breach : Option Breach) × IsFirstBreach pit schedule limit breach
of_pair pit schedule limit None none = let found = some_load pit schedule limit in of_load pit schedule limit found.0 (ordered-from_none pit schedule none) found.1
of_pair pit schedule limit (Some p) least = (Some (Precedence p.0 p.1), least)

pub some_first : (pit : Pit) (schedule : ℕ → Option ℕ) (limit : ℕ → ℕ → Option ℤ) → (breach : Option Breach) × IsFirstBreach pit schedule limit breach
some_first pit schedule limit = let found = some_pair pit schedule in of_pair pit schedule limit found.0 found.1
