-- Predecessors, which are rising lists.
use Rattle.std.proofs.Common.{◌≡◌, ℕ, ◌<◌, ◌≤◌, Bool, true, false, List, [], length, get_or, Option, None, sym, ap, subst, ◌∙◌, arith, inl, inr}
use Rattle.std.specs.List.Sorted.{IsStrictlyIncreasing}
use Rattle.std.proofs.lemmas.Grind.{get_or_default_zero}
use Rattle.std.proofs.lemmas.Bool.{cases_order, true≢false}
use Rattle.std.proofs.lemmas.List.Kept.{AllPairs-from_increasing}
use Rattle.std.proofs.lemmas.Bool.Decides.{leb_tells}
use Rattle.std.specs.Prelude.{unwrap_or, Contains}
use Rattle.std.proofs.lemmas.List.{get_or_past}
use Rattle.std.proofs.lemmas.List.Elements.{Contains-get_or, All-from_get_or, All-contains}
use Rattle.pit_num.specs.Least.{IsLeast, IsLeastOf}
use Rattle.pit_model.specs.Pit.{Pit, IsSound, preds_of}
use Rattle.pit_plan.specs.Schedule.{in_order, IsPred}
use Rattle.pit_plan.specs.Breaches.{IsOutOfOrder}
use Rattle.pit_plan.specs.Inside.Schedule.{IsLate}

-- in a rising list what holds at each place before one holds of each lesser number
pub before-place : (test : ℕ → Bool) (xs : List ℕ) (j x : ℕ) → IsStrictlyIncreasing xs → j < length xs → ((k : ℕ) → k < j → test (get_or xs k 0) ≡ true)
    → Contains xs x → x < get_or xs j 0 → test x ≡ true
before-place test xs j x up within before has less =
    let at : get_or xs has.0 0 ≡ x = sym (get_or_default_zero xs has.0 x has.1) ∙ has.2 in
    let below : has.0 < j =
    elim (cases_order has.0 j) [
      | inl here ↦ absurd (omega (arith, at, less, ap (λ k. get_or xs k 0) here))
      | inr apart ↦ elim apart [ inl under ↦ under | inr above ↦ absurd (omega (arith, at, less, AllPairs-from_increasing xs up j has.0 0 above has.1)) ]
    ] in
    subst (λ y. test y ≡ true) at (before has.0 below)

-- the first that is late, in a rising list, is the least
pub first_late-least : (schedule : ℕ → Option ℕ) (later : Option ℕ) (xs : List ℕ) (j : ℕ) → IsStrictlyIncreasing xs → j < length xs
    → ((k : ℕ) → k < j → in_order later (schedule (get_or xs k 0)) ≡ true)
    → in_order later (schedule (get_or xs j 0)) ≡ false
    → IsLeastOf ◌<◌ (IsLate schedule later xs) (get_or xs j 0)
first_late-least schedule later xs j up within before fails = record {
  passes = (Contains-get_or xs j 0 within, fails);
  first = λ x late less. true≢false (sym (before-place (λ y. in_order later (schedule y)) xs j x up within before late.0 less) ∙ late.1);
}

-- where none is late below the place where the list ends, none is
pub none-late : (schedule : ℕ → Option ℕ) (later : Option ℕ) (xs : List ℕ) (n : ℕ) → length xs ≤ n
    → ((k : ℕ) → k < n → in_order later (schedule (get_or xs k 0)) ≡ true)
    → IsLeast ◌<◌ (IsLate schedule later xs) None
none-late schedule later xs n whole each = λ x late.
    let kept = All-contains (λ a. in_order later (schedule a) ≡ true) xs x (All-from_get_or (λ a. in_order later (schedule a) ≡ true) xs 0 (λ k below. each k (omega (arith, below, whole)))) late.0 in
    true≢false (sym kept ∙ late.1)

-- the least late predecessor of a block, by the list that was read
pub least-late : (pit : Pit) (schedule : ℕ → Option ℕ) (b : ℕ) (later : Option ℕ) (xs : List ℕ) (found : Option ℕ) → xs ≡ preds_of pit b → later ≡ schedule b
    → IsLeast ◌<◌ (IsLate schedule later xs) found → IsLeast ◌<◌ (λ a. IsOutOfOrder pit schedule (b, a)) found
least-late pit schedule b later xs found is same least =
    subst (λ (ys : List ℕ). IsLeast ◌<◌ (IsLate schedule (schedule b) ys) found) is (subst (λ (p : Option ℕ). IsLeast ◌<◌ (IsLate schedule p xs) found) same least)

-- what has a predecessor is listed
pub pred-listed : (pit : Pit) (b a : ℕ) → IsPred pit b a → b < length pit.preds
pred-listed pit b a is =
    elim (leb_tells (length pit.preds) b) [
      | inr below ↦ below.1
      | inl past ↦
          let none : is.0 < 0 = subst (λ (row : Option (List ℕ)). is.0 < length (unwrap_or row [])) (get_or_past pit.preds b None past.1) is.1 in
          absurd (omega arith)
    ]

-- a predecessor and its successor are blocks
pub pred-known : (pit : Pit) (b a : ℕ) → IsSound pit → IsPred pit b a → (b < pit.blocks) × (a < pit.blocks)
pred-known pit b a sound is =
    (omega (arith, pred-listed pit b a is, sound.each_preds), All-contains (λ x. x < pit.blocks) (preds_of pit b) a (sound.preds b).in_range is)
