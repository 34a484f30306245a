use Rattle.std.proofs.Common.{◌+◌, ℕ, Option, None, take, get_or, refl, sym, ap, subst, ◌∙◌}
use Rattle.pit_num.specs.Least.{ComesBefore, IsLeast}
use Rattle.pit_plan.specs.Inside.Touched.{lesser_of, IsOutNear}
use Rattle.pit_plan.proofs.Touched.{out-next}
use Rattle.pit_plan.proofs.judging.first_out_near.Goals as goal

pub loop-block-preserved : goal.loop-block-preserved
loop-block-preserved g c =
    let s = g.S.Schedule.period_at c.args.schedule.now in
    let k = c.loop-block.block-index in
    let least = c.lesser-least-in-loop-block.ensures ∙ ap (λ (x : Option (ℕ × ℕ)). lesser_of x c.out_behind.result) c.lesser-least.ensures in
    subst (IsLeast ComesBefore (IsOutNear c.args.pit.now s (take (k + 1) c.args.writes.now))) (sym least)
    (out-next c.args.pit.now s c.args.writes.now k (get_or c.args.writes.now k (0, None)).0 c.loop-block.least c.out_before.result c.out_behind.result c.loop-block-test.true refl
    c.loop-block.invariant c.out_before.ensures c.out_behind.ensures)
