use Rattle.std.proofs.Common.{◌≡◌, ◌<◌, ◌∙◌, true, None, Some, ℤ, is_some, ap, length, get_or, arith, w64, rules}
use Rattle.std.proofs.lemmas.Int.{to_z-of_z}
use Rattle.pit_model.specs.Inside.Profits.{value_in}
use Rattle.pit_model.proofs.BlockSets.{below-known}
use Rattle.pit_model.proofs.KeptProfits.{profit-view}
use Rattle.pit_model.proofs.profits.Profits.profit.Goals as goal

pub index-requires : goal.index-requires
index-requires g c =
    let values = c.self.inside.values.items in
    let below : c.args.b < length values = below-known (length values) c.self.inside.set (value_in values) c.args.self.now c.args.b c.self.view_is c.requires in
    omega (arith, c.self.inside.values.ok.0)

pub returns-then-is_set : goal.returns-then-is_set
returns-then-is_set g c =
    let said : is_some (get_or c.args.self.now c.args.b None) ≡ true = search rules in
    ap (λ (x : ℤ). Some x) (to_z-of_z w64 c.index.result.now (search rules))
    ∙ profit-view c.self.inside.values.items c.self.inside.set c.args.b c.args.self.now c.index.result.now c.self.view_is c.requires said c.index.ensures
