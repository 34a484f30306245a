use Rattle.std.proofs.Common.{◌<◌, ℕ, sym, subst}
use Rattle.std.specs.List.{All}
use Rattle.pit_model.specs.Pit.{preds_in}
use Rattle.pit_model.proofs.builder.Builder.build.Goals as goal

pub shared-requires-clause-in_range : goal.shared-requires-clause-in_range
shared-requires-clause-in_range g c b =
    subst (λ (n : ℕ). All (λ a. a < n) (preds_in c.self.inside.preds b)) (sym c.self.invariant.each_preds) (c.self.invariant.preds b).in_range

pub shared-requires-clause-rising : goal.shared-requires-clause-rising
shared-requires-clause-rising g c b = (c.self.invariant.preds b).rising
