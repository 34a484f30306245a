-- Sums over all blocks and all periods.
use Rattle.std.proofs.Common.{◌≡◌, ℕ, zero, suc, ◌+◌, ◌<◌, ◌≤◌, ◌≢◌, ℤ, pos, ◌+ℤ◌, true, false, cond, Option, Some, None, refl, sym, ap, ◌∙◌, arith, add-one, inl, inr}
use Rattle.std.specs.Prelude.{nat_eq, nat_lt, is_some, IfSome}
use Rattle.std.proofs.lemmas.Int.{ints}
use Rattle.std.proofs.lemmas.Bool.Decides.{eqb_tells, leb_tells}
use Rattle.pit_plan.specs.Sums.{total}
use Rattle.pit_plan.specs.Schedule.{is_in}
use Rattle.pit_plan.proofs.CallerLemmas.{total-nothing}

-- one more term
pub total-more : (f : ℕ → ℤ) (n : ℕ) → total f (n + 1) ≡ total f n +ℤ f n
unfolding total
total-more f n = rw (add-one) refl

total-plus : (f g : ℕ → ℤ) (n : ℕ) → total (λ b. f b +ℤ g b) n ≡ total f n +ℤ total g n
unfolding total
total-plus f g zero = omega (arith, ints)
total-plus f g (suc n) = let rest = total-plus f g n in omega (arith, ints, rest)

-- a sum of sums may be added up in either order
pub total-swap : (f : ℕ → ℕ → ℤ) (k n : ℕ) → total (λ t. total (f t) n) k ≡ total (λ b. total (λ t. f t b) k) n
unfolding total
total-swap f zero n = sym (total-nothing n)
total-swap f (suc k) n = ap (λ z. z +ℤ total (f k) n) (total-swap f k n) ∙ sym (total-plus (λ b. total (λ t. f t b) k) (f k) n)

-- ---- what stands at one period

-- what it is below the period k, else nothing
abbrev pub at_period : Option ℕ → ℤ → ℕ → ℤ
at_period None z k = pos 0
at_period (Some t) z k = cond (nat_lt t k) z (pos 0)

is_below : (t k : ℕ) → t < k → nat_lt t k ≡ true
is_below t k below = elim (leb_tells (suc t) k) [ inl less ↦ less.0 | inr past ↦ absurd (omega (arith, below, past.1)) ]

not_below : (t k : ℕ) → k ≤ t → nat_lt t k ≡ false
not_below t k past = elim (leb_tells (suc t) k) [ inl less ↦ absurd (omega (arith, past, less.1)) | inr past ↦ past.0 ]

-- another number is below k + 1 where it is below k
still_below : (t k : ℕ) → t ≢ k → nat_lt t (suc k) ≡ nat_lt t k
still_below t k other =
    elim (leb_tells (suc t) k) [ inl less ↦ is_below t (suc k) (omega (arith, less.1)) ∙ sym less.0 | inr past ↦ not_below t (suc k) (omega (arith, past.1, other)) ∙ sym past.0 ]

one-period : (s : ℕ) (z : ℤ) (k : ℕ) → total (λ t. cond (nat_eq s t) z (pos 0)) k ≡ cond (nat_lt s k) z (pos 0)
unfolding total
one-period s z zero = elim (leb_tells (suc s) 0) [ inl below ↦ absurd (omega (arith, below.1)) | inr past ↦ ap (λ x. cond x z (pos 0)) (sym past.0) ]
one-period s z (suc k) =
    let rest = one-period s z k in
    elim (eqb_tells s k) [
      | inl here ↦
          let term = ap (λ x. cond x z (pos 0)) here.0 in
          let before = ap (λ x. cond x z (pos 0)) (not_below s k (omega (arith, here.1))) in
          let now = ap (λ x. cond x z (pos 0)) (is_below s (suc k) (omega (arith, here.1))) in
          omega (arith, ints, rest, term, before, now)
      | inr there ↦
          let term = ap (λ x. cond x z (pos 0)) there.0 in
          let same = ap (λ x. cond x z (pos 0)) (still_below s k there.1) in
          omega (arith, ints, rest, term, same)
    ]

pub total-period : (p : Option ℕ) (z : ℤ) (k : ℕ) → total (λ t. cond (is_in p t) z (pos 0)) k ≡ at_period p z k
total-period None z k = total-nothing k
total-period (Some s) z k = one-period s z k

pub period-within : (p : Option ℕ) (z : ℤ) (k : ℕ) → IfSome p (λ t. t < k) → at_period p z k ≡ cond (is_some p) z (pos 0)
period-within None z k within = refl
period-within (Some t) z k within = ap (λ x. cond x z (pos 0)) (is_below t k within)
