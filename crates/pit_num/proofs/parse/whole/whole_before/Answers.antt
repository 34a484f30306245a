use Rattle.std.proofs.Common.{arith, ◌≡◌, ◌<◌, ◌≤◌, ◌-◌, ◌∙◌, sym, ap, subst, List, ℕ, length, take, drop, get_or}
use Rattle.std.proofs.lemmas.List.{take_rest, length-take}
use Rattle.std.proofs.lemmas.List.Sums.{prefix_len-le-length}
use Rattle.std.specs.Char.{is_ascii_digit}
use Rattle.pit_num.specs.Front.{IsWholeThen}
use Rattle.pit_num.proofs.Fronts.{whole_in_front}
use Rattle.pit_num.proofs.parse.whole.whole_before.Goals as goal

pub returns-in-len1-up : goal.returns-in-len1-up
returns-in-len1-up c =
    let text = c.args.text.now in
    let n = c.leading_digits-n.result.0 in
    let count = c.leading_digits-n.result.1 in
    let rest : List ℕ = drop count text in
    let seen : take (length text - count) (drop count text) ≡ rest = take_rest text count in
    let behind : take (length (take (length text - count) (drop count text)) - 1) (drop 1 (take (length text - count) (drop count text))) ≡ drop 1 rest =
    take_rest (take (length text - count) (drop count text)) 1 ∙ ap (λ (l : List ℕ). drop 1 l) seen in
    let within : 0 < length rest = omega (arith, ap (λ (l : List ℕ). length l) seen, c.in-len1-up.len_at_least) in
    let is : get_or rest 0 0 ≡ c.args.end = ap (λ (l : List ℕ). get_or l 0 0) (sym seen) ∙ c.if-b-end.true in
    let few : count ≤ 9 = omega (arith, c.leading_digits-n.ensures.count, prefix_len-le-length is_ascii_digit (take c.min.result text), length-take c.min.result text) in
    subst (λ (l : List ℕ). IsWholeThen text n c.args.end l) (sym behind)
    (whole_in_front text c.min.result n count c.args.end c.leading_digits-n.ensures.count c.leading_digits-n.ensures.value few (omega (arith, c.if-digits-eq0.false)) within is)
