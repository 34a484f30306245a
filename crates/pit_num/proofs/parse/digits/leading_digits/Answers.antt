use Rattle.std.proofs.Common.{arith, ◌≡◌, ap, ◌∙◌, take}
use Rattle.std.specs.List.{prefix_len}
use Rattle.std.specs.Char.{is_ascii_digit}
use Rattle.std.specs.Str.Parse.{digits_value}
use Rattle.pit_num.proofs.Leading.{front_value_lt}
use Rattle.pit_num.proofs.EightLanes.{run_in_front}
use Rattle.pit_num.proofs.parse.digits.leading_digits.Goals as goal

pub leading_digits_from-requires-2-clause-front : goal.leading_digits_from-requires-2-clause-front
leading_digits_from-requires-2-clause-front c =
    let all : c.leading_in_lanes-n.result.1 ≡ 8 = omega (arith, c.leading_in_lanes-n.ensures.count, run_in_front c.args.text.now 8) in
    c.leading_in_lanes-n.ensures.value ∙ ap (λ k. digits_value 10 (take k c.args.text.now)) all

pub returns-then-digits-lt-LANES-clause-bound : goal.returns-then-digits-lt-LANES-clause-bound
returns-then-digits-lt-LANES-clause-bound c =
    let is : c.leading_in_lanes-n.result.1 ≡ prefix_len is_ascii_digit c.args.text.now = omega (arith, c.leading_in_lanes-n.ensures.count, run_in_front c.args.text.now 8) in
    omega (arith, c.leading_in_lanes-n.ensures.value, front_value_lt c.args.text.now c.leading_in_lanes-n.result.1 (omega arith))
