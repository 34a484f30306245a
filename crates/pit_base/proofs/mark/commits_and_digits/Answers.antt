use Rattle.std.proofs.Common.{◌∙◌}
use Rattle.pit_base.proofs.Marks.{space-at, number-is, behind-is}
use Rattle.pit_base.proofs.mark.commits_and_digits.Goals as goal

pub returns-in_err-at : goal.returns-in_err-at
returns-in_err-at c = rw c.from_residual.ensures (λ n digits few is. absurd (cc (space-at c.args.line.now n digits few is, c.in_err-at.ensures)))

pub returns-in_err-digits : goal.returns-in_err-digits
returns-in_err-digits c = rw c.from_residual-in_err-digits.ensures (λ n digits few is.
    c.in_err-digits.ensures digits (c.split_at.ensures.back ∙ behind-is c.args.line.now n digits few is c.in_ok-at.at c.in_ok-at.ensures))

pub returns-in_err-commits : goal.returns-in_err-commits
returns-in_err-commits c = rw c.from_residual-in_err-commits.ensures (λ n digits few is.
    c.in_err-commits.ensures n few (c.split_at.ensures.front ∙ number-is c.args.line.now n digits few is c.in_ok-at.at c.in_ok-at.ensures))
