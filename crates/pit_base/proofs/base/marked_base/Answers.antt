use Rattle.std.proofs.Common.{true≢false, sym, ◌∙◌, arith}
use Rattle.pit_base.proofs.Bases.{too-many, has-sum, other-sum}
use Rattle.pit_base.proofs.base.marked_base.Goals as goal

pub returns-then-commits-commit_count : goal.returns-then-commits-commit_count
returns-then-commits-commit_count g c = λ count base. too-many c.args.ours.now c.args.commits c.args.digits.now count (omega (arith, c.commit_count.ensures)) base

pub returns-in-Ok-true : goal.returns-in-Ok-true
returns-in-Ok-true g c =
    has-sum c.args.ours.now c.args.commits c.args.digits.now c.front_to.result.now c.front_to.ensures (c.in-Ok-true.ensures.0 c.in-Ok-true.field-0-test)

pub returns-in-Ok-false : goal.returns-in-Ok-false
returns-in-Ok-false g c = λ count base.
    other-sum c.args.ours.now c.args.commits c.args.digits.now c.front_to.result.now count c.front_to.ensures
    (λ sum. true≢false (sym (c.in-Ok-false.ensures.1 sum) ∙ c.in-Ok-false.field-0-test)) base
