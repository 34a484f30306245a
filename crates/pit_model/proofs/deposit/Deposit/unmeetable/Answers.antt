use Rattle.std.proofs.Common.{◌<◌, subst, arith, inl, inr}
use Rattle.std.proofs.lemmas.Bool.{cases_Bool}
use Rattle.pit_num.specs.Least.{IsLeast}
use Rattle.pit_num.proofs.CallerLemmas.{rows-more, least-row}
use Rattle.pit_model.specs.Pit.{IsUnmeetable, is_below_zero, upper_of}
use Rattle.pit_model.proofs.deposit.Deposit.unmeetable.Goals as goal

pub returns-in-Some : goal.returns-in-Some
returns-in-Some g c =
    least-row (IsUnmeetable c.args.self.now) c.loop-t.t c.in-Some.r c.loop-t.invariant (subst (IsLeast ◌<◌ (λ r. IsUnmeetable c.args.self.now (c.loop-t.t, r))) c.in-Some.is c.unmeetable_in.ensures)

pub loop-t-preserved : goal.loop-t-preserved
loop-t-preserved g c =
    rows-more (IsUnmeetable c.args.self.now) c.loop-t.t c.loop-t.invariant (subst (IsLeast ◌<◌ (λ r. IsUnmeetable c.args.self.now (c.loop-t.t, r))) c.in_default.is c.unmeetable_in.ensures)

pub returns : goal.returns
returns g c = λ resource period lr lt.
    elim (cases_Bool (is_below_zero (upper_of c.args.self.now resource period))) [
      | inl below ↦ absurd (c.loop-t.invariant (period, resource) (omega (arith, lt, c.periods-t-end.ensures, c.loop-t-test.false)) (lt, lr, below))
      | inr meets ↦ meets
    ]
