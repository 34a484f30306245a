use Rattle.std.proofs.Common.{◌++◌, codes, decimal, true≢false, refl, sym, ◌∙◌}
use Rattle.pit_base.proofs.Marks.{mark-behind, is-mark, mark-digits}
use Rattle.pit_base.proofs.mark.mark_of.Goals as goal

pub returns-in_err-behind : goal.returns-in_err-behind
returns-in_err-behind c = rw c.from_residual.ensures (λ mark is. c.in_err-behind.ensures (decimal mark.0 ++ (codes " sum " ++ mark.1)) (c.first_line.ensures ∙ is.line))

pub returns-in_err-commits : goal.returns-in_err-commits
returns-in_err-commits c = rw c.from_residual-in_err-commits.ensures (λ mark is.
    c.in_err-commits.ensures mark.0 mark.1 is.few (mark-behind c.args.text.now c.first_line.result.now c.in_ok-behind.behind.now c.first_line.ensures c.in_ok-behind.ensures mark is))

pub returns-then-not-are_sum_digits : goal.returns-then-not-are_sum_digits
returns-then-not-are_sum_digits c = λ mark is.
    let parts = c.in_ok-commits.ensures in
    true≢false (sym (c.if-not-are_sum_digits.ensures.1
    (mark-digits c.args.text.now c.first_line.result.now c.in_ok-behind.behind.now c.first_line.ensures c.in_ok-behind.ensures c.in_ok-commits.commits c.in_ok-commits.digits.now mark parts.0 parts.1 is)))

pub returns : goal.returns
returns c =
    let parts = c.in_ok-commits.ensures in
    is-mark c.args.text.now c.first_line.result.now c.in_ok-behind.behind.now c.first_line.ensures c.in_ok-behind.ensures c.in_ok-commits.commits c.in_ok-commits.digits.now parts.0 parts.1
    (c.if-not-are_sum_digits.ensures.0 refl)
