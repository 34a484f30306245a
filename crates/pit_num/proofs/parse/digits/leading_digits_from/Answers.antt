use Rattle.std.proofs.Common.{rules, arith, ◌≡◌, ◌<◌, ◌≤◌, ◌^◌, ◌+◌, ℕ, subst, length, get_or}
use Rattle.std.specs.List.{prefix_len}
use Rattle.std.specs.Char.{is_ascii_digit}
use Rattle.std.proofs.lemmas.List.Sums.{prefix_len-le-length}
use Rattle.pit_num.proofs.Digits.{power_le, digit_below}
use Rattle.pit_num.proofs.Leading.{front_more, front_is, front_value_lt, front_value_more}
use Rattle.pit_num.proofs.parse.digits.leading_digits_from.Goals as goal

pub returns-then-not-is_ascii_digit-clause-count : goal.returns-then-not-is_ascii_digit-clause-count
returns-then-not-is_ascii_digit-clause-count c = front_is c.args.text.now c.loop-i.i c.loop-i.invariant.digits (search rules)

pub returns-then-not-is_ascii_digit-clause-bound : goal.returns-then-not-is_ascii_digit-clause-bound
returns-then-not-is_ascii_digit-clause-bound c = omega (arith, front_value_lt c.args.text.now c.loop-i.i c.loop-i.invariant.digits)

pub overflow_mul-n : goal.overflow_mul-n
overflow_mul-n c = omega (arith, front_value_lt c.args.text.now c.loop-i.i c.loop-i.invariant.digits, power_le c.loop-i.i 18 (omega arith))

pub overflow_add-n : goal.overflow_add-n
overflow_add-n c = omega (arith, front_value_lt c.args.text.now c.loop-i.i c.loop-i.invariant.digits, power_le c.loop-i.i 18 (omega arith), digit_below (get_or c.args.text.now c.loop-i.i 0) (search rules))

pub loop-i-preserved : goal.loop-i-preserved
loop-i-preserved c =
    let more : c.loop-i.i + 1 ≤ prefix_len is_ascii_digit c.args.text.now = front_more c.args.text.now c.loop-i.i c.loop-i.invariant.digits c.loop-i-test.true (search rules) in
    record { digits = more; value = omega (arith, front_value_more c.args.text.now c.loop-i.i more c.loop-i-test.true) }

pub returns-clause-count : goal.returns-clause-count
returns-clause-count c = omega (arith, prefix_len-le-length is_ascii_digit c.args.text.now)

pub returns-clause-bound : goal.returns-clause-bound
returns-clause-bound c =
    let at_end : c.loop-i.i ≡ length c.args.text.now = omega (arith, prefix_len-le-length is_ascii_digit c.args.text.now) in
    subst (λ (k : ℕ). c.loop-i.n < 10 ^ k) at_end (omega (arith, front_value_lt c.args.text.now c.loop-i.i c.loop-i.invariant.digits))
