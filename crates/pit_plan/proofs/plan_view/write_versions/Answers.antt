use Rattle.std.proofs.Common.{sym, ap, ◌∙◌, arith, length, take, None}
use Rattle.pit_plan.proofs.Slots.{with_writes-none, with_writes-more, length-with_writes}
use Rattle.pit_plan.proofs.plan_view.write_versions.Goals as goal

pub loop-block-init : goal.loop-block-init
loop-block-init g c = sym (with_writes-none (λ w. c.args.number) c.args.versions.now.items)

pub loop-block-preserved : goal.loop-block-preserved
loop-block-preserved g c =
    with_writes-more (λ w. c.args.number) c.args.versions.now.items c.loop-block.versions.items c.args.writes.now c.loop-block.block-index (0, None) c.loop-block-test.true c.loop-block.invariant

pub index_mut-requires : goal.index_mut-requires
index_mut-requires g c =
    let here = c.requires c.loop-block.block-index (0, None) c.loop-block-test.true in
    let same = ap length c.loop-block.invariant ∙ length-with_writes (λ w. c.args.number) c.args.versions.now.items (take c.loop-block.block-index c.args.writes.now) in
    omega (arith, here, same, c.loop-block.versions.ok.0)
