-- Discount factors.
use Rattle.std.proofs.Common.{◌≡◌, ℕ, zero, suc, ◌+◌, ◌*◌, ◌^◌, ◌≤◌, List, [], ◌∷◌, ◌++◌, length, ℤ, pos, ap, sym, subst, refl, arith, add-one}
use Rattle.std.proofs.lemmas.Grind.{common_steps}
use Rattle.pit_num.specs.Rounding.{nearest, IsGreatest}
use Rattle.pit_num.specs.Factor.{factor}
use Rattle.pit_num.specs.Inside.Factor.{AreFactors}
use Rattle.pit_num.proofs.Nearest.{nearest_holds, nearest_above, nearest_le}

pub factor_next : (rate t : ℕ) → factor rate (t + 1) ≡ nearest (factor rate t * 10 ^ 6) (10 ^ 6 + rate)
unfolding factor
factor_next rate t = ap (λ (k : ℕ). factor rate k) (add-one t)

pub factor_first : (rate : ℕ) → factor rate 0 ≡ 10 ^ 12
unfolding factor
factor_first rate = refl

-- what it is the greatest of
pub factor_greatest : (rate t : ℕ) → IsGreatest (λ n. 2 * n * (10 ^ 6 + rate) ≤ 2 * factor rate t * 10 ^ 6 + 10 ^ 6 + rate) (factor rate (t + 1))
factor_greatest rate t = record {
  holds = rw (factor_next rate t) (omega (arith, nearest_holds (factor rate t * 10 ^ 6) (10 ^ 6 + rate) (omega arith)));
  above = λ k h. omega (arith, nearest_above (factor rate t * 10 ^ 6) (10 ^ 6 + rate) k (omega arith) (omega arith), factor_next rate t);
}

-- one more factor
one_more : (rate : ℕ) (factors : List ℤ) (x : ℤ) → AreFactors rate factors → x ≡ pos (factor rate (length factors)) → AreFactors rate (factors ++ x ∷ [])
one_more rate factors x before is = λ t h. grind (arith, common_steps, before t)

pub factors_push : (rate : ℕ) (factors after : List ℤ) (x : ℤ) → AreFactors rate factors → x ≡ pos (factor rate (length factors)) → after ≡ factors ++ x ∷ [] → AreFactors rate after
factors_push rate factors after x before is grown = subst (λ (xs : List ℤ). AreFactors rate xs) (sym grown) (one_more rate factors x before is)

-- no factor is above one
pub factor_le : (rate t : ℕ) → factor rate t ≤ 10 ^ 12
unfolding factor
factor_le rate zero = omega arith
factor_le rate (suc t) = nearest_le (factor rate t * 10 ^ 6) (10 ^ 6 + rate) (10 ^ 12) (omega arith) (omega (arith, factor_le rate t))
