use Rattle.std.proofs.Common.{arith, ◌≡◌, ◌+◌, ◌-◌, ◌*◌, ◌^◌, ◌<◌, ℕ, ℤ, drop, ap, sym, ◌∙◌, Ok, Result, Bool}
use Rattle.std.proofs.lemmas.List.{take_rest}
use Rattle.pit_num.specs.declared.parse.NumError.{NumError}
use Rattle.pit_num.specs.declared.limits.TheConstants.{MICRO_LIMIT}
use Rattle.pit_num.specs.Decimal.{is_negative, with_sign}
use Rattle.pit_num.specs.Inside.Decimal.{after_front_point}
use Rattle.pit_num.proofs.Digits.{power_le}
use Rattle.pit_num.proofs.Magnitudes.{sign_kept}
use Rattle.pit_num.proofs.Plain.{fronts_micro}
use Rattle.pit_num.proofs.parse.micro.micro_from_bytes.Goals as goal

wrapped : ℤ → Result ℤ NumError
wrapped z = Ok z

pub plain_magnitude-magnitude-requires-clause-whole : goal.plain_magnitude-magnitude-requires-clause-whole
plain_magnitude-magnitude-requires-clause-whole c = omega (arith, c.leading_digits-whole.ensures.bound, power_le c.leading_digits-whole.result.1 12 c.if-digits-gt-PLAIN_DIGITS.false)

pub returns : goal.returns
unfolding wrapped
returns c =
    let n : ℕ = c.leading_digits-whole.result.0 * 10 ^ 6 + c.leading_digits-fraction.result.0 * 10 ^ (6 - c.leading_digits-fraction.result.1) in
    let value : c.plain_magnitude-magnitude.result ≡ n = c.plain_magnitude-magnitude.ensures.value in
    let small : n < MICRO_LIMIT = omega (arith, value, c.plain_magnitude-magnitude.ensures.bound) in
    let is : c.with_sign.result ≡ with_sign (is_negative c.args.text.now) n = c.with_sign.ensures ∙ ap (λ (b : Bool). with_sign b c.plain_magnitude-magnitude.result) c.split_sign-negative.ensures.sign ∙ ap (with_sign (is_negative c.args.text.now)) value in
    let behind : c.after_front_point-behind.result.now ≡ after_front_point (drop c.leading_digits-whole.result.1 c.split_sign-negative.result.1.now) = c.after_front_point-behind.ensures ∙ ap after_front_point (take_rest c.split_sign-negative.result.1.now c.leading_digits-whole.result.1) in
    ap wrapped (sign_kept c.with_sign.result (is_negative c.args.text.now) n is small)
    ∙ sym (fronts_micro c.args.text.now c.split_sign-negative.result.1.now c.after_front_point-behind.result.now c.leading_digits-whole.result.1 c.leading_digits-fraction.result.1 c.leading_digits-whole.result.0 c.leading_digits-fraction.result.0
    c.split_sign-negative.ensures.rest c.leading_digits-whole.ensures.count c.leading_digits-whole.ensures.value behind c.leading_digits-fraction.ensures.count c.leading_digits-fraction.ensures.value
    c.if-places-behind.false c.if-digits-places-eq0.false c.if-digits-gt-PLAIN_DIGITS.false c.if-places-gt-PLACES.false small)
