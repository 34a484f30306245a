-- Laws of sums over all blocks.
use Rattle.std.proofs.Common.{◌≡◌, ℕ, zero, suc, ◌<◌, ◌+◌, ℤ, pos, ◌+ℤ◌, refl, arith, add-one}
use Rattle.pit_plan.specs.Sums.{total}

-- one more block
pub total-more : (f : ℕ → ℤ) (n : ℕ) → total f (n + 1) ≡ total f n +ℤ f n
unfolding total
total-more f n = rw (add-one) refl

-- a sum of nothing
pub total-nothing : (n : ℕ) → total (λ b. pos 0) n ≡ pos 0
unfolding total
total-nothing zero = refl
total-nothing (suc n) = cc (total-nothing n)

-- sums of equal terms are equal
pub total-same : (f g : ℕ → ℤ) (n : ℕ) → ((b : ℕ) → b < n → f b ≡ g b) → total f n ≡ total g n
unfolding total
total-same f g zero h = refl
total-same f g (suc n) h =
    let rest = total-same f g n (λ b l. h b (omega arith)) in
    let last = h n (omega arith) in
    cc
