use Rattle.std.proofs.Common.{rules, arith, ◌≡◌, ◌≤◌, ◌-◌, ◌∙◌, sym, ap, subst, List, ℕ, length, ◌∷◌, take, drop, length-take}
use Rattle.std.specs.Char.{is_ascii_digit}
use Rattle.std.proofs.lemmas.List.{take_rest}
use Rattle.std.proofs.lemmas.List.Sums.{prefix_len-le-length}
use Rattle.pit_num.specs.Inside.Decimal.{IsFractionThen}
use Rattle.pit_num.proofs.Fronts.{front_byte, point_then}
use Rattle.pit_num.proofs.parse.micro.leading_fraction.Goals as goal

pub returns-in-46 : goal.returns-in-46
returns-in-46 c =
    let text = c.args.text.now in
    let fraction = c.leading_digits-fraction.result.0 in
    let places = c.leading_digits-fraction.result.1 in
    let behind : List ℕ = take (length text - 1) (drop 1 text) in
    let is : text ≡ 46 ∷ behind = front_byte text 46 (omega (arith, c.in-46.len_at_least)) (search rules) ∙ ap (λ (l : List ℕ). 46 ∷ l) (sym (take_rest text 1)) in
    let few : places ≤ 6 = omega (arith, c.leading_digits-fraction.ensures.count, prefix_len-le-length is_ascii_digit (take c.min.result behind), length-take c.min.result behind) in
    subst (λ (l : List ℕ). IsFractionThen text fraction places l) (sym (take_rest behind places))
    (point_then text behind c.min.result fraction places is c.leading_digits-fraction.ensures.count c.leading_digits-fraction.ensures.value few)
