use Rattle.std.proofs.Common.{◌<◌, ◌∙◌, ℤ, refl, ap, set, arith, length, w64, rules}
use Rattle.std.proofs.lemmas.Int.{to_z-of_z}
use Rattle.pit_model.specs.Inside.Profits.{value_in, profits_in}
use Rattle.pit_model.proofs.BlockSets.{IsWithBlock, IsWithBlock-insert, below-known}
use Rattle.pit_model.proofs.KeptProfits.{profits_in-set}
use Rattle.pit_model.proofs.profits.Profits.set.Goals as goal

pub insert-requires : goal.insert-requires
insert-requires g c =
    let values = c.self.inside.values.items in
    let below : c.args.b < length values = below-known (length values) c.self.inside.set (value_in values) c.args.self.now c.args.b c.self.view_is c.requires in
    omega (arith, c.self.invariant)

pub index_mut-requires : goal.index_mut-requires
index_mut-requires g c =
    let values = c.self.inside.values.items in
    let below : c.args.b < length values = below-known (length values) c.self.inside.set (value_in values) c.args.self.now c.args.b c.self.view_is c.requires in
    omega (arith, c.self.inside.values.ok.0)

pub returns : goal.returns
returns g c =
    let values = c.self.inside.values.items in
    let known = c.self.inside.set in
    let below : c.args.b < length values = below-known (length values) known (value_in values) c.args.self.now c.args.b c.self.view_is c.requires in
    let with : IsWithBlock known c.insert.new.self c.args.b = IsWithBlock-insert (length values) known known c.insert.new.self c.args.b below (λ k. refl) c.self.invariant c.insert.ensures in
    rw (← c.self.view_is)
    (ap (λ (v : ℤ). profits_in (set values c.args.b v) c.insert.new.self) (to_z-of_z w64 c.args.v (search rules))
    ∙ profits_in-set values known c.insert.new.self c.args.b c.args.v below with)
