use Rattle.std.proofs.Common.{◌≡◌, ℕ, List, ap, subst, sym, arith, rules}
use Rattle.std.specs.Prelude.{replicate}
use Rattle.pit_model.specs.Pit.{Pit}
use Rattle.pit_plan.specs.Standing.{period_of}
use Rattle.pit_table.specs.declared.mined.Mined.{Mined}
use Rattle.pit_table.specs.Inside.Mined.{AreMined, nothing_mined}
use Rattle.pit_table.proofs.OneMore.{none-mined}
use Rattle.pit_table.proofs.mined.by_period.Goals as goal

pub loop-b-init : goal.loop-b-init
loop-b-init g c =
    let items : c.in_ok-mined.mined.items ≡ replicate c.args.plan.now.pit.periods nothing_mined = search rules in
    subst (λ (ms : List Mined). AreMined c.args.plan.now.pit (period_of c.args.plan.now) 0 ms) (sym items) (none-mined c.args.plan.now.pit (period_of c.args.plan.now))

pub returns : goal.returns
returns g c =
    let same = ap (λ (p : Pit). p.blocks) c.deposit-2.ensures in
    subst (λ (n : ℕ). AreMined c.args.plan.now.pit (period_of c.args.plan.now) n c.loop-b.mined.items) (omega (arith, same, c.loop-b-test.false, c.loop-b.auto.b-end, c.blocks-b-end.ensures.count)) c.loop-b.invariant
