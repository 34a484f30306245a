-- Cells of resources in periods.
use Rattle.std.proofs.Common.{◌≡◌, ℕ, suc, ◌+◌, ◌*◌, ◌<◌, inl, inr, sym, subst, arith}
use Rattle.std.proofs.Math.Nat.{mul-le-mul_right}
use Rattle.std.proofs.lemmas.Bool.Decides.{leb_tells}

-- another period or resource stands in another cell
pub cells_apart : (n r q t u : ℕ) → r < n → q < n → t * n + r ≡ u * n + q → t ≡ u
cells_apart n r q t u lr lq e =
    elim (leb_tells (suc t) u) [
      | inl below ↦ absurd (omega (arith, mul-le-mul_right n below.1, e))
      | inr above ↦
          elim (leb_tells (suc u) t) [
            | inl more ↦ absurd (omega (arith, mul-le-mul_right n more.1, e))
            | inr less ↦ omega (arith, above.1, less.1)
          ]
    ]

pub same_resource : (n r q t u : ℕ) → t * n + r ≡ u * n + q → t ≡ u → q ≡ r
same_resource n r q t u e same = omega (arith, subst (λ (k : ℕ). t * n + r ≡ k * n + q) (sym same) e)
