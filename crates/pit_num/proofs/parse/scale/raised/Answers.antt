use Rattle.std.proofs.Common.{rules, arith, ◌≡◌, ◌*◌, ◌^◌, ◌∙◌, ap, ℕ, ◌+◌, add-one}
use Rattle.std.proofs.Math.Nat.{pow-suc}
use Rattle.pit_num.proofs.Magnitudes.{is_below, is_above, more_zeros}
use Rattle.pit_num.proofs.parse.scale.raised.Goals as goal

pub loop-init : goal.loop-init
loop-init c = omega arith

pub loop-preserved : goal.loop-preserved
loop-preserved c = let power : c.args.n * 10 ^ (c.loop.counter + 1) ≡ c.args.n * (10 ^ c.loop.counter * 10) = ap (λ (m : ℕ). c.args.n * m) (ap (λ (k : ℕ). 10 ^ k) (add-one c.loop.counter) ∙ pow-suc 10 c.loop.counter) in omega (arith, c.loop.invariant, power)

pub returns-then-value-ge-LIMIT : goal.returns-then-value-ge-LIMIT
returns-then-value-ge-LIMIT c = is_above (c.args.n * 10 ^ c.args.zeros) (c.args.n * 10 ^ c.args.zeros) (search rules) (omega (arith, c.loop.invariant, more_zeros c.args.n c.loop.counter c.args.zeros (omega arith)))

pub returns-then-value-lt-LIMIT : goal.returns-then-value-lt-LIMIT
returns-then-value-lt-LIMIT c = is_below c.loop.value (c.args.n * 10 ^ c.args.zeros) (let all : c.loop.counter ≡ c.args.zeros = omega arith in c.loop.invariant ∙ ap (λ (k : ℕ). c.args.n * 10 ^ k) all) (omega arith)

pub returns-else-value-lt-LIMIT : goal.returns-else-value-lt-LIMIT
returns-else-value-lt-LIMIT c = is_above c.loop.value (c.args.n * 10 ^ c.args.zeros) (let all : c.loop.counter ≡ c.args.zeros = omega arith in c.loop.invariant ∙ ap (λ (k : ℕ). c.args.n * 10 ^ k) all) (omega arith)
