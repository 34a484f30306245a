use Rattle.std.proofs.Common.{arith, ◌≡◌, ◌<◌, ◌^◌, ℕ, ap, ◌∙◌, subst, List, length}
use Rattle.std.specs.Str.Parse.{digits_value}
use Rattle.std.proofs.lemmas.List.{take_all}
use Rattle.pit_num.proofs.Leading.{all_in_front}
use Rattle.pit_num.proofs.parse.digits.digits_value.Goals as goal

pub returns-then-digits-le-SHORT_MAX-clause-value : goal.returns-then-digits-le-SHORT_MAX-clause-value
returns-then-digits-le-SHORT_MAX-clause-value c =
    let all : c.leading_digits.result.1 ≡ length c.args.digits.now = c.leading_digits.ensures.count ∙ all_in_front c.args.digits.now c.requires.digits in
    c.from.ensures ∙ c.leading_digits.ensures.value ∙ ap (λ (ds : List ℕ). digits_value 10 ds) (take_all c.leading_digits.result.1 c.args.digits.now (omega arith))

pub returns-then-digits-le-SHORT_MAX-clause-bound : goal.returns-then-digits-le-SHORT_MAX-clause-bound
returns-then-digits-le-SHORT_MAX-clause-bound c =
    let all : c.leading_digits.result.1 ≡ length c.args.digits.now = c.leading_digits.ensures.count ∙ all_in_front c.args.digits.now c.requires.digits in
    subst (λ (k : ℕ). c.from.result < 10 ^ k) all (omega (arith, c.leading_digits.ensures.bound))
