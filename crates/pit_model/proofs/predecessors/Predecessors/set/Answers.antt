use Rattle.std.proofs.Common.{rules, length, false, ◌≡◌}
use Rattle.std.specs.List.Sorted.{IsStrictlyIncreasing}
use Rattle.pit_model.specs.Pit.{preds_from}
use Rattle.pit_model.proofs.Rising.{is_in, preds_from-rising}
use Rattle.pit_model.proofs.predecessors.Predecessors.set.Goals as goal

pub returns-then-is_rising-clause-ok : goal.returns-then-is_rising-clause-ok
returns-then-is_rising-clause-ok g c =
    let absent : is_in c.args.b c.args.listed.now ≡ false = search rules in
    let up : IsStrictlyIncreasing c.args.listed.now = search rules in
    let same : preds_from (length c.args.self.now) c.args.b c.args.listed.now ≡ c.args.listed.now = preds_from-rising (length c.args.self.now) c.args.b c.args.listed.now c.requires.listed absent up in
    rw same c.set_row.ensures.ok
