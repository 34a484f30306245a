-- Successors: the blocks that have a block among their predecessors.
use Rattle.std.proofs.Common.{◌≡◌, ℕ, zero, suc, ◌<◌, ◌≤◌, Bool, true, false, cond, List, [], ◌∷◌, length, get_or, Option, None, refl, sym, ap, subst, ◌∙◌, arith, inl, inr}
use Rattle.std.specs.Prelude.{Contains, ◌||◌, ◌==◌}
use Rattle.std.specs.List.{filter, list_any, range_with_len}
use Rattle.std.specs.List.Sorted.{IsStrictlyIncreasing}
use Rattle.std.proofs.lemmas.Bool.{cases_Bool, true≢false}
use Rattle.std.proofs.lemmas.Bool.Decides.{eqb_tells}
use Rattle.std.proofs.lemmas.List.FromFn.{length-range_with_len, get_or-range_with_len}
use Rattle.std.proofs.lemmas.List.Elements.{Contains-get_or, All-from_get_or, All-contains}
use Rattle.pit_num.specs.Least.{ComesBefore, IsLeast, IsLeastOf}
use Rattle.pit_model.specs.Pit.{Pit, preds_in, preds_of, succs_in, succs_of}
use Rattle.pit_plan.specs.Schedule.{IsPred, in_order}
use Rattle.pit_plan.specs.Breaches.{IsOutOfOrder}
use Rattle.pit_plan.proofs.Preds.{pred-listed, before-place}

any-from_contains : (xs : List ℕ) (b k : ℕ) → k < length xs → get_or xs k b ≡ b → list_any (λ a. a == b) xs ≡ true
any-from_contains [] b k within is = absurd (omega (arith, within))
any-from_contains (x ∷ xs) b zero within is = elim (eqb_tells x b) [ inl here ↦ ap (λ (t : Bool). t || list_any (λ a. a == b) xs) here.0 | inr there ↦ absurd (there.1 is) ]
any-from_contains (x ∷ xs) b (suc k) within is =
    elim (x == b) as (λ t. t || list_any (λ a. a == b) xs ≡ true) [ true ↦ refl | false ↦ any-from_contains xs b k (omega (arith, within)) is ]

contains-from_any : (xs : List ℕ) (b : ℕ) → list_any (λ a. a == b) xs ≡ true → Contains xs b
contains-from_any [] b is = absurd (cc (is))
contains-from_any (x ∷ xs) b is =
    elim (eqb_tells x b) [
      | inl here ↦ (0, omega arith, here.1)
      | inr there ↦ let rest = contains-from_any xs b (sym (ap (λ (t : Bool). t || list_any (λ a. a == b) xs) there.0) ∙ is) in (suc rest.0, omega (arith, rest.1), rest.2)
    ]

in-filter : (p : ℕ → Bool) (xs : List ℕ) (x k : ℕ) → k < length xs → get_or xs k x ≡ x → p x ≡ true → Contains (filter p xs) x
in-filter p [] x k within is passes = absurd (omega (arith, within))
in-filter p (y ∷ ys) x zero within is passes =
    subst (λ (t : Bool). Contains (cond t (y ∷ filter p ys) (filter p ys)) x) (sym (ap p is ∙ passes)) (0, omega arith, is)
in-filter p (y ∷ ys) x (suc k) within is passes =
    let rest = in-filter p ys x k (omega (arith, within)) is passes in
    elim (p y) as (λ t. Contains (cond t (y ∷ filter p ys) (filter p ys)) x) [ true ↦ (suc rest.0, omega (arith, rest.1), rest.2) | false ↦ rest ]

from-filter : (p : ℕ → Bool) (xs : List ℕ) (x k : ℕ) → k < length (filter p xs) → get_or (filter p xs) k x ≡ x → p x ≡ true
from-filter p [] x k within is = absurd (omega (arith, within))
from-filter p (y ∷ ys) x k within is =
    elim (cases_Bool (p y)) [
      | inl passes ↦
          by passes k (from-filter p ys x) (subst (λ (zs : List ℕ). k < length zs) (ap (kept) passes) within) (subst (λ (zs : List ℕ). get_or zs k x ≡ x) (ap kept passes) is)
      | inr fails ↦ from-filter p ys x k (subst (λ (zs : List ℕ). k < length zs) (ap kept fails) within) (subst (λ (zs : List ℕ). get_or zs k x ≡ x) (ap kept fails) is)
    ]
  where
    kept : Bool → List ℕ
    kept t = cond t (y ∷ filter p ys) (filter p ys)

    by : p y ≡ true → (n : ℕ) → ((m : ℕ) → m < length (filter p ys) → get_or (filter p ys) m x ≡ x → p x ≡ true) → n < length (y ∷ filter p ys) → get_or (y ∷ filter p ys) n x ≡ x → p x ≡ true
    by passes zero rest below here = sym (ap p here) ∙ passes
    by passes (suc m) rest below there = rest m (omega (arith, below)) there

-- a block has its successors for later ones
pub succ-from_pred : (pit : Pit) (x b : ℕ) → IsPred pit x b → Contains (succs_of pit b) x
unfolding succs_in
succ-from_pred pit x b is =
    let listed = pred-listed pit x b is in
    in-filter (λ later. list_any (λ a. a == b) (preds_in pit.preds later)) (range_with_len 0 (length pit.preds)) x x
    (omega (arith, listed, length-range_with_len 0 (length pit.preds))) (get_or-range_with_len 0 (length pit.preds) x x listed ∙ omega arith)
    (any-from_contains (preds_of pit x) b is.0 is.1 is.2)

pub pred-from_succ : (pit : Pit) (x b : ℕ) → Contains (succs_of pit b) x → IsPred pit x b
unfolding succs_in
pred-from_succ pit x b is = contains-from_any (preds_of pit x) b (from-filter (λ later. list_any (λ a. a == b) (preds_in pit.preds later)) (range_with_len 0 (length pit.preds)) x is.0 is.1 is.2)

-- ---- the least pair of a block that is out of order

-- with a predecessor
pub none-before : (pit : Pit) (s : ℕ → Option ℕ) (b : ℕ) → IsLeast ◌<◌ (λ a. IsOutOfOrder pit s (b, a)) None → IsLeast ComesBefore (λ p. IsOutOfOrder pit s p × (p.0 ≡ b)) None
none-before pit s b none = λ p is. none p.1 (subst (λ (x : ℕ). IsOutOfOrder pit s (x, p.1)) is.1 is.0)

pub least-before : (pit : Pit) (s : ℕ → Option ℕ) (b a : ℕ) → IsLeastOf ◌<◌ (λ x. IsOutOfOrder pit s (b, x)) a → IsLeastOf ComesBefore (λ p. IsOutOfOrder pit s p × (p.0 ≡ b)) (b, a)
least-before pit s b a least = record {
  passes = (least.passes, refl);
  first = λ p is before.
      elim before [
        | inl less ↦ omega (arith, less, is.1)
        | inr same ↦ least.first p.1 (subst (λ (x : ℕ). IsOutOfOrder pit s (x, p.1)) is.1 is.0) same.1
      ];
}

-- with a successor: the first that is out of order, in their list, is the least
pub least-behind : (pit : Pit) (s : ℕ → Option ℕ) (b j : ℕ) → IsStrictlyIncreasing (succs_of pit b) → j < length (succs_of pit b)
    → ((k : ℕ) → k < j → in_order (s (get_or (succs_of pit b) k 0)) (s b) ≡ true) → in_order (s (get_or (succs_of pit b) j 0)) (s b) ≡ false
    → IsLeastOf ComesBefore (λ p. IsOutOfOrder pit s p × (p.1 ≡ b)) (get_or (succs_of pit b) j 0, b)
least-behind pit s b j up within each fails = record {
  passes = ((pred-from_succ pit (get_or (succs_of pit b) j 0) b (Contains-get_or (succs_of pit b) j 0 within), fails), refl);
  first = λ p is before.
      let out : IsOutOfOrder pit s (p.0, b) = subst (λ (y : ℕ). IsOutOfOrder pit s (p.0, y)) is.1 is.0 in
      elim before [
        | inl less ↦ true≢false (sym (before-place (λ y. in_order (s y) (s b)) (succs_of pit b) j p.0 up within each (succ-from_pred pit p.0 b out.0) less) ∙ out.1)
        | inr same ↦ omega (arith, same.1, is.1)
      ];
}

-- or none is
pub none-behind : (pit : Pit) (s : ℕ → Option ℕ) (b n : ℕ) → length (succs_of pit b) ≤ n → ((k : ℕ) → k < n → in_order (s (get_or (succs_of pit b) k 0)) (s b) ≡ true)
    → IsLeast ComesBefore (λ p. IsOutOfOrder pit s p × (p.1 ≡ b)) None
none-behind pit s b n whole each = λ p is.
    let out : IsOutOfOrder pit s (p.0, b) = subst (λ (y : ℕ). IsOutOfOrder pit s (p.0, y)) is.1 is.0 in
    true≢false (sym (All-contains (λ y. in_order (s y) (s b) ≡ true) (succs_of pit b) p.0
    (All-from_get_or (λ y. in_order (s y) (s b) ≡ true) (succs_of pit b) 0 (λ k below. each k (omega (arith, below, whole)))) (succ-from_pred pit p.0 b out.0)) ∙ out.1)
