use Rattle.std.proofs.Common.{arith, ◌≡◌, ◌*◌, ◌/◌, ◌^◌, ◌≤◌, sym, ap, ℕ, ◌+◌}
use Rattle.pit_num.specs.Inside.Decimal.{below_limit}
use Rattle.pit_num.specs.Rounding.{nearest}
use Rattle.pit_num.proofs.Digits.{power_le}
use Rattle.pit_num.proofs.Nearest.{nearest_small, ten_pos}
use Rattle.pit_num.proofs.Magnitudes.{is_below, is_above}
use Rattle.pit_num.proofs.parse.scale.lowered.Goals as goal

pub returns-then-places-gt-DIGITS_MAX : goal.returns-then-places-gt-DIGITS_MAX
returns-then-places-gt-DIGITS_MAX c = let wide : 10 ^ 39 ≤ 10 ^ c.args.places = power_le 39 c.args.places (omega arith) in ap (λ n. below_limit n) (sym (nearest_small c.args.n (10 ^ c.args.places) (omega (arith, wide))))

pub pow-unit-requires : goal.pow-unit-requires
pow-unit-requires c = omega (arith, power_le c.args.places 38 c.if-places-gt-DIGITS_MAX.false)

pub overflow_add-value : goal.overflow_add-value
overflow_add-value c = omega (arith, power_le c.args.places 38 c.if-places-gt-DIGITS_MAX.false, c.pow-unit.ensures)

pub overflow_mul-value-2 : goal.overflow_mul-value-2
overflow_mul-value-2 c = omega (arith, power_le c.args.places 38 c.if-places-gt-DIGITS_MAX.false, c.pow-unit.ensures)

pub nonzero_div-value : goal.nonzero_div-value
nonzero_div-value c = omega (arith, ten_pos c.args.places, c.pow-unit.ensures)

-- what is computed is the nearest
computed : (n q r : ℕ) → r ≡ q → (2 * n + r) / (2 * r) ≡ nearest n q
unfolding nearest
computed n q r same = ap (λ (m : ℕ). (2 * n + m) / (2 * m)) same

pub returns-then-value-lt-LIMIT : goal.returns-then-value-lt-LIMIT
returns-then-value-lt-LIMIT c = is_below _ (nearest c.args.n (10 ^ c.args.places)) (computed c.args.n (10 ^ c.args.places) c.pow-unit.result c.pow-unit.ensures) c.if-value-lt-LIMIT.true

pub returns-else-value-lt-LIMIT : goal.returns-else-value-lt-LIMIT
returns-else-value-lt-LIMIT c = is_above _ (nearest c.args.n (10 ^ c.args.places)) (computed c.args.n (10 ^ c.args.places) c.pow-unit.result c.pow-unit.ensures) c.if-value-lt-LIMIT.false
