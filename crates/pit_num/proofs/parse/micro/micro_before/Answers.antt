use Rattle.std.proofs.Common.{rules, arith, ◌≡◌, ◌+◌, ◌*◌, ◌^◌, ◌<◌, ◌≤◌, ◌-◌, ◌∙◌, sym, ap, subst, List, ℕ, ℤ, w64, to_z, of_z, length-take, take, drop}
use Rattle.std.specs.Char.{is_ascii_digit}
use Rattle.std.proofs.lemmas.Int.{to_z-of_z}
use Rattle.std.proofs.lemmas.List.{take_rest}
use Rattle.std.proofs.lemmas.List.Sums.{prefix_len-le-length}
use Rattle.pit_num.specs.declared.limits.TheConstants.{MICRO_LIMIT}
use Rattle.pit_num.specs.Decimal.{with_sign}
use Rattle.pit_num.specs.Front.{IsMicroThen}
use Rattle.pit_num.specs.Inside.Decimal.{IsFractionThen}
use Rattle.pit_num.proofs.Digits.{power_le}
use Rattle.pit_num.proofs.Fronts.{fraction_lt, micro_in_front}
use Rattle.pit_num.proofs.parse.micro.micro_before.Goals as goal

pub plain_magnitude-magnitude-requires-clause-whole :
    goal.plain_magnitude-magnitude-requires-clause-whole
plain_magnitude-magnitude-requires-clause-whole c =
    let few : c.leading_digits-whole.result.1 ≤ 12 = omega (arith, c.leading_digits-whole.ensures.count, prefix_len-le-length is_ascii_digit (take c.min.result c.split_minus-negative.result.1.now), length-take c.min.result c.split_minus-negative.result.1.now) in
    omega (arith, c.leading_digits-whole.ensures.bound, power_le c.leading_digits-whole.result.1 12 few)

pub plain_magnitude-magnitude-requires-clause-fraction :
    goal.plain_magnitude-magnitude-requires-clause-fraction
plain_magnitude-magnitude-requires-clause-fraction c = fraction_lt _ c.leading_fraction-fraction.result.0 c.leading_fraction-fraction.result.1 _ c.leading_fraction-fraction.ensures

pub returns-in-len1-up : goal.returns-in-len1-up
returns-in-len1-up c =
    let text = c.args.text.now in
    let negative = c.split_minus-negative.result.0 in
    let U = c.split_minus-negative.result.1.now in
    let whole = c.leading_digits-whole.result.0 in
    let count = c.leading_digits-whole.result.1 in
    let fraction = c.leading_fraction-fraction.result.0 in
    let places = c.leading_fraction-fraction.result.1 in
    let behind : List ℕ = c.leading_fraction-fraction.result.2.now in
    let n : ℕ = whole * 10 ^ 6 + fraction * 10 ^ (6 - places) in
    let part : IsFractionThen (drop count U) fraction places behind = subst (λ (l : List ℕ). IsFractionThen l fraction places behind) (take_rest U count) c.leading_fraction-fraction.ensures in
    let value : c.plain_magnitude-magnitude.result ≡ n = c.plain_magnitude-magnitude.ensures.value in
    let small : n < MICRO_LIMIT = omega (arith, value, c.plain_magnitude-magnitude.ensures.bound) in
    let few : count ≤ 12 = omega (arith, c.leading_digits-whole.ensures.count, prefix_len-le-length is_ascii_digit (take c.min.result U), length-take c.min.result U) in
    let is : with_sign negative n ≡ to_z w64 (of_z w64 c.with_sign.result) = ap (with_sign negative) (sym value) ∙ sym c.with_sign.ensures ∙ sym (to_z-of_z w64 c.with_sign.result (search rules)) in
    subst (λ (l : List ℕ). IsMicroThen text (to_z w64 (of_z w64 c.with_sign.result)) c.args.end l) (sym (take_rest behind 1))
    (subst (λ (z : ℤ). IsMicroThen text z c.args.end (drop 1 behind)) is
    (micro_in_front text U behind negative c.min.result count whole fraction places c.args.end c.split_minus-negative.ensures c.leading_digits-whole.ensures.count c.leading_digits-whole.ensures.value few part c.if-digits-places-eq0.false small c.in-len1-up.len_at_least c.if-b-end.true))
