use Rattle.std.proofs.Common.{ℕ, ap, subst, arith}
use Rattle.std.specs.Prelude.{flat_map}
use Rattle.std.specs.List.{range_with_len}
use Rattle.pit_model.specs.Pit.{Pit}
use Rattle.pit_plan.specs.Schedule.{held_period}
use Rattle.pit_all.specs.Breaches.{outs_in, outs_of}
use Rattle.pit_all.specs.Outs.{Counts}
use Rattle.pit_all.proofs.Counted.{counts-next}
use Rattle.pit_all.proofs.outs.Outs.of.Goals as goal

pub loop-b-preserved : goal.loop-b-preserved
loop-b-preserved g c =
    let same = ap (λ (p : Pit). p.blocks) c.deposit.ensures in (
      omega (arith, same, c.blocks-b-end.ensures.sound.few_blocks, c.loop-b.invariant.0, c.in_ok-note_block.ensures.count),
      λ commits stands.
          counts-next c.loop-b.outs c.note_block.new.self (outs_in c.args.plan.now.pit (held_period commits)) c.loop-b.b (c.loop-b.invariant.1 commits stands)
          (c.in_ok-note_block.ensures.notes commits stands),
    )

pub returns : goal.returns
unfolding outs_of
returns g c = λ commits stands.
    let same = ap (λ (p : Pit). p.blocks) c.deposit.ensures in
    subst (λ (n : ℕ). Counts c.loop-b.outs (flat_map (outs_in c.args.plan.now.pit (held_period commits)) (range_with_len 0 n)))
    (omega (arith, same, c.loop-b-test.false, c.loop-b.auto.b-end, c.blocks-b-end.ensures.count)) (c.loop-b.invariant.1 commits stands)
