use Rattle.std.proofs.Common.{◌∙◌}
use Rattle.pit_model.specs.Inside.Profits.{value_in}
use Rattle.pit_model.proofs.BlockSets.{known-view}
use Rattle.std.proofs.Common.{length}
use Rattle.pit_model.proofs.profits.Profits.is_set.Goals as goal

pub returns : goal.returns
returns g c =
    let values = c.self.inside.values.items in
    c.contains.ensures ∙ known-view (length values) c.self.inside.set (value_in values) c.args.self.now c.args.b c.self.view_is c.requires
