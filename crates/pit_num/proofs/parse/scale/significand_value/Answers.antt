use Rattle.std.proofs.Common.{arith, ◌≡◌, ◌*◌, ◌^◌, ◌∙◌, ◌≤◌, ap, ℕ, length}
use Rattle.pit_num.proofs.Digits.{power_le, joined_lt, value_append}
use Rattle.std.specs.Str.Parse.{digits_value}
use Rattle.pit_num.proofs.parse.scale.significand_value.Goals as goal

pub pow-requires : goal.pow-requires
pow-requires c = let short : length c.args.fraction.now ≤ 38 = omega arith in omega (arith, power_le (length c.args.fraction.now) 38 short)

pub overflow_mul-result : goal.overflow_mul-result
overflow_mul-result c = let product : c.digits_value.result * c.pow.result ≡ digits_value 10 c.args.whole.now * 10 ^ length c.args.fraction.now = ap (λ (n : ℕ). n * c.pow.result) c.digits_value.ensures.value ∙ ap (λ (n : ℕ). digits_value 10 c.args.whole.now * n) c.pow.ensures in
    omega (arith, product, joined_lt c.args.whole.now c.args.fraction.now c.requires.whole c.requires.fraction c.requires.short)

pub overflow_add-result : goal.overflow_add-result
overflow_add-result c = let product : c.digits_value.result * c.pow.result ≡ digits_value 10 c.args.whole.now * 10 ^ length c.args.fraction.now = ap (λ (n : ℕ). n * c.pow.result) c.digits_value.ensures.value ∙ ap (λ (n : ℕ). digits_value 10 c.args.whole.now * n) c.pow.ensures in
    omega (arith, product, joined_lt c.args.whole.now c.args.fraction.now c.requires.whole c.requires.fraction c.requires.short, c.digits_value-2.ensures.value)

pub returns-clause-value : goal.returns-clause-value
returns-clause-value c = let product : c.digits_value.result * c.pow.result ≡ digits_value 10 c.args.whole.now * 10 ^ length c.args.fraction.now = ap (λ (n : ℕ). n * c.pow.result) c.digits_value.ensures.value ∙ ap (λ (n : ℕ). digits_value 10 c.args.whole.now * n) c.pow.ensures in
    omega (arith, product, value_append c.args.whole.now c.args.fraction.now, c.digits_value-2.ensures.value)

pub returns-clause-bound : goal.returns-clause-bound
returns-clause-bound c = let product : c.digits_value.result * c.pow.result ≡ digits_value 10 c.args.whole.now * 10 ^ length c.args.fraction.now = ap (λ (n : ℕ). n * c.pow.result) c.digits_value.ensures.value ∙ ap (λ (n : ℕ). digits_value 10 c.args.whole.now * n) c.pow.ensures in
    omega (arith, product, joined_lt c.args.whole.now c.args.fraction.now c.requires.whole c.requires.fraction c.requires.short, c.digits_value-2.ensures.value)
