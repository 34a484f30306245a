use Rattle.std.proofs.Common.{arith, sym, ap, ◌∙◌, ◌<◌, ◌≤◌, ◌^◌, ℕ, length, Ok}
use Rattle.pit_num.proofs.Wholes.{front_small, front_large}
use Rattle.pit_num.proofs.Leading.{some_digit}
use Rattle.pit_num.proofs.parse.whole.whole_from_bytes.Goals as goal

pub returns-in-Ok : goal.returns-in-Ok
returns-in-Ok c =
    let some : 0 < length c.args.text.now = some_digit c.args.text.now c.leading_digits-n.result.1 c.leading_digits-n.ensures.count c.if-digits-eq0.false in
    let small : c.leading_digits-n.result.0 < 2 ^ 32 = c.in-Ok.ensures.0 in
    ap (λ (n : ℕ). Ok n) c.in-Ok.ensures.1 ∙ sym (front_small c.args.text.now c.leading_digits-n.result.0 c.leading_digits-n.result.1 c.leading_digits-n.ensures.count c.leading_digits-n.ensures.value (omega arith) some (omega arith) small)

pub returns-in-Err : goal.returns-in-Err
returns-in-Err c =
    let some : 0 < length c.args.text.now = some_digit c.args.text.now c.leading_digits-n.result.1 c.leading_digits-n.ensures.count c.if-digits-eq0.false in
    let large : 2 ^ 32 ≤ c.leading_digits-n.result.0 = omega (arith, c.in-Err.ensures) in
    sym (front_large c.args.text.now c.leading_digits-n.result.0 c.leading_digits-n.result.1 c.leading_digits-n.ensures.count c.leading_digits-n.ensures.value (omega arith) some (omega arith) large)
