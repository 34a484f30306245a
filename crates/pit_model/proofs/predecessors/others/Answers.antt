use Rattle.pit_model.proofs.Rising.{preds_from-dedup}
use Rattle.pit_model.proofs.predecessors.others.Goals as goal

pub returns : goal.returns
returns g c blocks bound =
    preds_from-dedup blocks c.args.b c.args.listed.now c.in_ok-others.others.items c.sort_unstable.new.self.items c.dedup.new.self.items bound c.in_ok-others.ensures c.sort_unstable.ensures.permutation c.sort_unstable.ensures.sorted c.dedup.ensures.filtered
