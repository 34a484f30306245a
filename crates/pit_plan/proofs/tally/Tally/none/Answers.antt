use Rattle.std.proofs.Common.{◌≡◌, ◌*◌, None, pos, rules}
use Rattle.std.specs.Prelude.{replicate}
use Rattle.pit_plan.proofs.Moved.{tally-none}
use Rattle.pit_plan.proofs.tally.Tally.none.Goals as goal

pub returns-clause-tally : goal.returns-clause-tally
returns-clause-tally g c =
    let pit = c.args.pit.now in
    let periods : c.in_ok-periods.periods.items ≡ replicate pit.blocks None = search rules in
    let loads : c.in_ok-loads.loads.items ≡ replicate (pit.periods * pit.resources) (pos 0) = search rules in
    rw (periods, loads) (tally-none pit)
