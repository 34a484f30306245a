use Rattle.std.proofs.lemmas.List.{take_all}
use Rattle.std.specs.Str.Parse.{digits_value}
use Rattle.std.proofs.Common.{ap, ◌∙◌, List, ℕ, arith, ◌≡◌}
use Rattle.pit_num.proofs.Digits.{digit_in, value_below, value_more, value_lt}
use Rattle.pit_num.proofs.parse.digits.long_digits_value.Goals as goal

pub overflow_mul-n : goal.overflow_mul-n
overflow_mul-n c = omega (arith, value_below c.args.digits.now c.loop-b.b-index c.requires.digits c.requires.short c.loop-b-test.true, c.loop-b.invariant)

pub overflow_sub-b : goal.overflow_sub-b
overflow_sub-b c = omega (arith, digit_in c.args.digits.now c.loop-b.b-index c.requires.digits c.loop-b-test.true)

pub overflow_add-n : goal.overflow_add-n
overflow_add-n c = omega (arith, value_below c.args.digits.now c.loop-b.b-index c.requires.digits c.requires.short c.loop-b-test.true, c.loop-b.invariant, digit_in c.args.digits.now c.loop-b.b-index c.requires.digits c.loop-b-test.true)

pub loop-b-preserved : goal.loop-b-preserved
loop-b-preserved c = omega (arith, value_more c.args.digits.now c.loop-b.b-index c.requires.digits c.loop-b-test.true, c.loop-b.invariant)

pub returns-clause-bound : goal.returns-clause-bound
returns-clause-bound c =
    let all : c.loop-b.n ≡ digits_value 10 c.args.digits.now = c.loop-b.invariant ∙ ap (λ (ds : List ℕ). digits_value 10 ds) (take_all c.loop-b.b-index c.args.digits.now (omega arith)) in
    omega (arith, all, value_lt c.args.digits.now c.requires.digits)
