use Rattle.std.proofs.Common.{◌+◌, take, sym, subst, arith}
use Rattle.pit_num.specs.Least.{ComesBefore, IsLeast}
use Rattle.pit_model.specs.Pit.{cell_of}
use Rattle.pit_plan.specs.Limits.{at_cell}
use Rattle.pit_plan.specs.Inside.Touched.{IsOverAt, IsNamed}
use Rattle.pit_plan.proofs.Touched.{over-next-cell, over-all-cells}
use Rattle.pit_plan.proofs.judging.least_over.Goals as goal

pub loop-i-preserved : goal.loop-i-preserved
loop-i-preserved g c =
    let pit = c.args.pit.now in
    let lim = at_cell pit (g.L.Limits.limit_in c.args.limits.now) in
    let cells = c.args.cells.now in
    subst (IsLeast ComesBefore (λ p. IsOverAt pit lim cells p × IsNamed (take (c.loop-i.i + 1) cells) (cell_of pit p.1 p.0))) (sym c.lesser-least.ensures)
    (over-next-cell pit lim cells c.loop-i.i c.loop-i.least c.over_at.result (omega (arith, c.loop-i-test.true, c.len-i-end.ensures)) c.loop-i.invariant c.over_at.ensures)

pub returns : goal.returns
returns g c =
    let pit = c.args.pit.now in
    over-all-cells pit (at_cell pit (g.L.Limits.limit_in c.args.limits.now)) c.args.cells.now c.loop-i.i c.loop-i.least (omega (arith, c.loop-i-test.false, c.len-i-end.ensures)) c.loop-i.invariant
