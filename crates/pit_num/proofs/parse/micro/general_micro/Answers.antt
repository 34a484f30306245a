use Rattle.std.proofs.Common.{arith, ◌≡◌, ◌<◌, ℤ, ap, ◌∙◌, Some, Ok, Result, Bool}
use Rattle.std.proofs.lemmas.Grind.{common_steps}
use Rattle.std.proofs.lemmas.Bool.Decides.{nat_tests}
use Rattle.pit_num.specs.declared.parse.NumError.{NumError}
use Rattle.pit_num.specs.Decimal.{micro_of, millionths, is_negative, with_sign}
use Rattle.pit_num.specs.Inside.Decimal.{below_limit}
use Rattle.pit_num.specs.declared.limits.TheConstants.{MICRO_LIMIT}
use Rattle.pit_num.proofs.Magnitudes.{limit_value, sign_kept}
use Rattle.pit_num.proofs.parse.micro.general_micro.Goals as goal

wrapped : ℤ → Result ℤ NumError
wrapped z = Ok z

pub returns-in-Some : goal.returns-in-Some
unfolding micro_of wrapped
returns-in-Some c =
    let found : below_limit (millionths c.args.text.now) ≡ Some c.in-Some.n = grind (arith, common_steps) in
    let small : millionths c.args.text.now < MICRO_LIMIT = (limit_value c.in-Some.n (millionths c.args.text.now) found).1 in
    let is : c.with_sign.result ≡ with_sign (is_negative c.args.text.now) (millionths c.args.text.now) = c.with_sign.ensures ∙ ap (λ (b : Bool). with_sign b c.in-Some.n) c.split_sign-negative.ensures.sign ∙ ap (with_sign (is_negative c.args.text.now)) (limit_value c.in-Some.n (millionths c.args.text.now) found).0 in
    let whole : Ok (with_sign (is_negative c.args.text.now) (millionths c.args.text.now)) ≡ micro_of c.args.text.now = grind (arith, nat_tests, common_steps) in
    ap wrapped (sign_kept c.with_sign.result (is_negative c.args.text.now) (millionths c.args.text.now) is small) ∙ whole
