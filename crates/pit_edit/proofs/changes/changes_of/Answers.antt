use Rattle.std.proofs.Common.{◌≡◌, ℕ, ◌<◌, sym, ap, subst, ◌∙◌, arith}
use Rattle.std.specs.Prelude.{All}
use Rattle.pit_model.specs.Pit.{Pit}
use Rattle.pit_plan.specs.Standing.{period_of}
use Rattle.pit_edit.specs.Changes.{changes_of}
use Rattle.pit_edit.proofs.Filters.{changes-none, changes-more, changes-known}
use Rattle.pit_edit.proofs.changes.changes_of.Goals as goal

pub loop-b-init : goal.loop-b-init
loop-b-init g c = c.new-changes.ensures.items ∙ sym (changes-none c.args.edit.now (period_of c.args.plan.now))

pub loop-b-preserved : goal.loop-b-preserved
loop-b-preserved g c =
    changes-more c.args.edit.now (period_of c.args.plan.now) c.loop-b.b c.loop-b.changes.items c.push_if.new.blocks.items c.is_change.result c.is_change.ensures c.loop-b.invariant
    c.in_ok-push_if.ensures

pub returns-clause-changes : goal.returns-clause-changes
returns-clause-changes g c =
    let same = ap (λ (p : Pit). p.blocks) c.instance.ensures in
    subst (λ (n : ℕ). c.loop-b.changes.items ≡ changes_of n c.args.edit.now (period_of c.args.plan.now))
    (omega (arith, same, c.loop-b-test.false, c.loop-b.auto.b-end, c.blocks-b-end.ensures.count)) c.loop-b.invariant

pub returns-clause-known : goal.returns-clause-known
returns-clause-known g c =
    let same = ap (λ (p : Pit). p.blocks) c.instance.ensures in
    let all : c.loop-b.b ≡ c.args.plan.now.pit.blocks = omega (arith, same, c.loop-b-test.false, c.loop-b.auto.b-end, c.blocks-b-end.ensures.count) in
    subst (λ (n : ℕ). All (λ b. b < n) c.loop-b.changes.items) all
    (subst (All (λ b. b < c.loop-b.b)) (sym c.loop-b.invariant) (changes-known c.loop-b.b c.args.edit.now (period_of c.args.plan.now)))
