use Rattle.std.proofs.Common.{sym, arith}
use Rattle.std.proofs.lemmas.List.{take_all, length-take-le}
use Rattle.pit_edit.proofs.conflicts.first_of.Goals as goal

pub returns-then-blocks-le-CONFLICTS_SHOWN : goal.returns-then-blocks-le-CONFLICTS_SHOWN
returns-then-blocks-le-CONFLICTS_SHOWN c = sym (take_all 1000 c.args.blocks.now (omega (arith, c.if-blocks-le-CONFLICTS_SHOWN.true)))

pub slice_bounds-result-end : goal.slice_bounds-result-end
slice_bounds-result-end c = sym (length-take-le 1000 c.args.blocks.now (omega (arith, c.if-blocks-le-CONFLICTS_SHOWN.false)))
