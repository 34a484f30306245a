use Rattle.std.proofs.Common.{◌≡◌, ◌<◌, ◌≤◌, ℕ, Option, List, false, length, get_or, sym, ap, subst, ◌∙◌}
use Rattle.pit_num.specs.Least.{ComesBefore, IsLeastOf}
use Rattle.pit_model.specs.Pit.{ArePreds, succs_of}
use Rattle.pit_plan.specs.Schedule.{in_order}
use Rattle.pit_plan.specs.Breaches.{IsOutOfOrder}
use Rattle.pit_plan.proofs.Succs.{least-behind, none-behind}
use Rattle.pit_plan.proofs.judging.out_behind.Goals as goal

pub returns-then-not-keeps_order : goal.returns-then-not-keeps_order
returns-then-not-keeps_order g c =
    let pit = c.args.pit.now in
    let s = g.S.Schedule.period_at c.args.schedule.now in
    let is = c.succs-later-items.ensures.value in
    let j = c.loop-later.later-index in
    let sound = subst (ArePreds pit.blocks c.args.b) is c.succs-later-items.ensures.sound in
    let later = c.period.ensures ∙ ap (λ (xs : List ℕ). s (get_or xs j 0)) is in
    let fails : in_order (s (get_or (succs_of pit c.args.b) j 0)) (s c.args.b) ≡ false =
    ap (λ (x : Option ℕ). in_order x (s c.args.b)) (sym later) ∙ (ap (in_order c.period.result) (sym c.period-before.ensures) ∙ (sym c.keeps_order.ensures ∙ c.if-not-keeps_order.true)) in
    subst (λ (xs : List ℕ). IsLeastOf ComesBefore (λ p. IsOutOfOrder pit s p × (p.1 ≡ c.args.b)) (get_or xs j 0, c.args.b)) (sym is)
    (least-behind pit s c.args.b j sound.rising (subst (λ (xs : List ℕ). j < length xs) is c.loop-later-test.true) c.loop-later.invariant.1 fails)

pub returns : goal.returns
returns g c =
    none-behind c.args.pit.now (g.S.Schedule.period_at c.args.schedule.now) c.args.b c.loop-later.later-index
    (subst (λ (xs : List ℕ). length xs ≤ c.loop-later.later-index) c.succs-later-items.ensures.value c.loop-later-test.false) c.loop-later.invariant.1
