-- For the crates above: what they cite of numbers and devices, and the least of what passes a test.
use Rattle.std.proofs.Common.{◌≡◌, ℕ, zero, suc, ◌+◌, ◌<◌, ◌⊎◌, Option, Some, None, refl, sym, ap, subst, ◌∙◌, arith, inl, inr}
use Rattle.std.proofs.lemmas.Bool.{cases_order}
use Rattle.std.proofs.lemmas.Bool.Decides.{eqb_tells}
use Rattle.pit_num.specs.Least.{ComesBefore, IsLeastOf, IsLeast}
pub use Rattle.pit_num.proofs.Factors.{factor_le}
pub use Rattle.pit_num.proofs.Written.{appends_nothing, appends_more, front_more, front_after, failed_early_if_any, map_err, map_ok}

-- ---- the least is one

-- two are one, or one of them comes before the other
abbrev pub IsTotal : {X : Type 0} → (X → X → Type 0) → Type 0
IsTotal {X} Before = (x y : X) → (x ≡ y) ⊎ (Before x y ⊎ Before y x)

pub total-numbers : IsTotal ◌<◌
total-numbers x y = cases_order x y

pub total-pairs : IsTotal ComesBefore
total-pairs p q =
    elim (cases_order p.0 q.0) [
      | inl same ↦
          elim (cases_order p.1 q.1) [
            | inl also ↦ inl (ap (λ (x : ℕ). (x, p.1)) same ∙ ap (λ (y : ℕ). (q.0, y)) also)
            | inr apart ↦ inr (elim apart [ inl below ↦ inl (inr (same, below)) | inr above ↦ inr (inr (sym same, above)) ])
          ]
      | inr apart ↦ inr (elim apart [ inl below ↦ inl (inl below) | inr above ↦ inr (inl above) ])
    ]

pub one-least_of : {X : Type 0} (Before : X → X → Type 0) (Passes : X → Type 0) (x y : X) → IsTotal Before → IsLeastOf Before Passes x → IsLeastOf Before Passes y → x ≡ y
one-least_of Before Passes x y total one other =
    elim (total x y) [
      | inl same ↦ same
      | inr apart ↦ elim apart [ inl before ↦ absurd (other.first x one.passes before) | inr behind ↦ absurd (one.first y other.passes behind) ]
    ]

pub one-least : {X : Type 0} (Before : X → X → Type 0) (Passes : X → Type 0) (f g : Option X) → IsTotal Before → IsLeast Before Passes f → IsLeast Before Passes g → f ≡ g
one-least Before Passes None None total none also = refl
one-least Before Passes None (Some y) total none other = absurd (none y other.passes)
one-least Before Passes (Some x) None total one none = absurd (none x one.passes)
one-least Before Passes (Some x) (Some y) total one other = ap Some (one-least_of Before Passes x y total one other)

-- of two tests that the same ones pass
pub least-same : {X : Type 0} (Before : X → X → Type 0) (P Q : X → Type 0) (f : Option X) → IsLeast Before P f → ((x : X) → P x → Q x) → ((x : X) → Q x → P x) → IsLeast Before Q f
least-same Before P Q None none one two = λ x is. none x (two x is)
least-same Before P Q (Some found) least one two = record { passes = one found least.passes; first = λ x is before. least.first x (two x is) before }

-- ---- where numbers are tried one by one

-- the numbers below n all fail, or there is a least one that passes
pub least-below : (Passes : ℕ → Type 0) (n : ℕ) → ((k : ℕ) → Passes k ⊎ (Passes k → ⊥)) → ((k : ℕ) → k < n → Passes k → ⊥) ⊎ ((k : ℕ) × (k < n) × IsLeastOf ◌<◌ Passes k)
least-below Passes zero test = inl (λ k below is. omega (arith, below))
least-below Passes (suc n) test =
    elim (least-below Passes n test) [
      | inr found ↦ inr (found.0, omega (arith, found.1), found.2)
      | inl each ↦
          elim (test n) [
            | inl passes ↦ inr (n, omega arith, record { passes = passes; first = λ k is below. each k below is })
            | inr fails ↦ inl (λ k below is. elim (eqb_tells k n) [ inl last ↦ fails (subst Passes last.1 is) | inr other ↦ each k (omega (arith, below, other.1)) is ])
          ]
    ]

-- where what passes is below n, there is a least one or none
pub some-least : (Passes : ℕ → Type 0) (n : ℕ) → ((k : ℕ) → Passes k ⊎ (Passes k → ⊥)) → ((k : ℕ) → Passes k → k < n) → (found : Option ℕ) × IsLeast ◌<◌ Passes found
some-least Passes n test below =
    elim (least-below Passes n test) [
      | inl none ↦ (None, λ k is. none k (below k is) is)
      | inr found ↦ (Some found.0, found.2)
    ]

-- ---- where pairs are tried row by row

-- nothing before the row passes, and nothing in it
pub rows-more : (Passes : ℕ × ℕ → Type 0) (n : ℕ) → ((p : ℕ × ℕ) → p.0 < n → Passes p → ⊥) → IsLeast ◌<◌ (λ k. Passes (n, k)) None → (p : ℕ × ℕ) → p.0 < n + 1 → Passes p → ⊥
rows-more Passes n before row p below is =
    elim (eqb_tells p.0 n) [
      | inl last ↦ row p.1 (subst (λ (x : ℕ). Passes (x, p.1)) last.1 is)
      | inr other ↦ before p (omega (arith, below, other.1)) is
    ]

-- nothing before the row passes, so the least of the row is the least pair
pub least-row : (Passes : ℕ × ℕ → Type 0) (n k : ℕ) → ((p : ℕ × ℕ) → p.0 < n → Passes p → ⊥) → IsLeastOf ◌<◌ (λ x. Passes (n, x)) k → IsLeastOf ComesBefore Passes (n, k)
least-row Passes n k before row = record {
  passes = row.passes;
  first = λ p is earlier.
      elim earlier [
        | inl less ↦ before p less is
        | inr same ↦ row.first p.1 (subst (λ (x : ℕ). Passes (x, p.1)) same.0 is) same.1
      ];
}

abbrev HasLeast : (ℕ × ℕ → Type 0) → ℕ → Type 0
HasLeast Passes n = (k : ℕ) × IsLeastOf ◌<◌ (λ x. Passes (n, x)) k

tells-row : (Passes : ℕ × ℕ → Type 0) (n : ℕ) (found : Option ℕ) → IsLeast ◌<◌ (λ x. Passes (n, x)) found → HasLeast Passes n ⊎ (HasLeast Passes n → ⊥)
tells-row Passes n None none = inr (λ has. none has.0 has.1.passes)
tells-row Passes n (Some k) least = inl (k, least)

has-row : (Passes : ℕ × ℕ → Type 0) (n k : ℕ) (found : Option ℕ) → IsLeast ◌<◌ (λ x. Passes (n, x)) found → Passes (n, k) → HasLeast Passes n
has-row Passes n k None none is = absurd (none k is)
has-row Passes n k (Some x) least is = (x, least)

-- where each row has its least one or none, and what passes is in the rows below n, there is a least pair or none
pub some-least_pair : (Passes : ℕ × ℕ → Type 0) (n : ℕ) → ((x : ℕ) → (found : Option ℕ) × IsLeast ◌<◌ (λ k. Passes (x, k)) found) → ((p : ℕ × ℕ) → Passes p → p.0 < n)
    → (found : Option (ℕ × ℕ)) × IsLeast ComesBefore Passes found
some-least_pair Passes n rows below =
    let has : (p : ℕ × ℕ) → Passes p → HasLeast Passes p.0 = λ p is. has-row Passes p.0 p.1 (rows p.0).0 (rows p.0).1 is in
    elim (least-below (HasLeast Passes) n (λ x. tells-row Passes x (rows x).0 (rows x).1)) [
      | inl none ↦ (None, λ p is. none p.0 (below p is) (has p is))
      | inr found ↦
          (Some (found.0, found.2.passes.0), least-row Passes found.0 found.2.passes.0 (λ p less is. found.2.first p.0 (has p is) less) found.2.passes.1)
    ]
