use Rattle.std.proofs.Common.{arith}
use Rattle.pit_model.proofs.Sound.{IsSound-with_preds}
use Rattle.pit_model.proofs.builder.Builder.set_preds.Goals as goal

pub invariant_of-self-2 : goal.invariant_of-self-2
invariant_of-self-2 g c = rw c.in_ok-set.ensures.ok (IsSound-with_preds _ c.args.b c.args.listed.now c.self.invariant (omega arith))
