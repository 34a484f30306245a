use Rattle.std.proofs.Common.{sym, ◌∙◌, arith}
use Rattle.std.proofs.lemmas.Bool.{true≢false}
use Rattle.pit_model.proofs.deposit.Deposit.unmeetable_in.Goals as goal

pub returns : goal.returns
returns g c = λ r is. true≢false (sym is.2 ∙ c.loop-r.invariant r (omega (arith, is.1, c.resources-r-end.ensures, c.loop-r-test.false)))
