use Rattle.std.proofs.Common.{ℕ, List, length, ap, arith}
use Rattle.pit_info.specs.Figures.{preds_at}
use Rattle.pit_info.proofs.Ranges.{sum_with}
use Rattle.pit_step.proofs.CallerLemmas.{few-preds}
use Rattle.pit_info.proofs.blocks.pairs.Goals as goal

pub overflow_add-count : goal.overflow_add-count
overflow_add-count g c =
    let few = few-preds c.args.pit.now.blocks c.loop-b.b c.preds.result.now c.preds.ensures.sound in
    omega (arith, few, c.loop-b.invariant.1, c.loop-b-test.true, c.blocks-b-end.ensures.count, c.blocks-b-end.ensures.sound.few_blocks)

pub loop-b-preserved : goal.loop-b-preserved
loop-b-preserved g c =
    let few = few-preds c.args.pit.now.blocks c.loop-b.b c.preds.result.now c.preds.ensures.sound in (
      sum_with (preds_at c.args.pit.now) c.loop-b.b c.loop-b.count (length c.preds.result.now) c.loop-b.invariant.0 (ap (λ (xs : List ℕ). length xs) c.preds.ensures.value),
      omega (arith, few, c.loop-b.invariant.1, c.blocks-b-end.ensures.sound.few_blocks),
    )
