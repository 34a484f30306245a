use Rattle.std.proofs.Common.{arith}
use Rattle.pit_plan.proofs.CellLists.{not-found}
use Rattle.pit_plan.proofs.cell_list.place_of.Goals as goal

pub returns-clause-none : goal.returns-clause-none
returns-clause-none c = not-found c.args.few.now c.args.cell c.loop-i.i (omega (arith, c.loop-i-test.false)) c.loop-i.invariant
