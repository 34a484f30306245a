use Rattle.std.proofs.Common.{◌≡◌, ℕ, ◌<◌, List, sym, ap, subst, ◌∙◌}
use Rattle.std.specs.Prelude.{All}
use Rattle.std.proofs.lemmas.List.{take_all}
use Rattle.std.proofs.lemmas.List.Elements.{All-filter}
use Rattle.pit_plan.specs.Standing.{version_of}
use Rattle.pit_edit.specs.Inside.Parts.{is_part, part_of}
use Rattle.pit_edit.proofs.Filters.{filter-next}
use Rattle.pit_edit.proofs.changes.part_of.Goals as goal

pub loop-b-preserved : goal.loop-b-preserved
loop-b-preserved g c =
    filter-next (is_part c.args.wants_late c.args.start (version_of c.args.plan.now)) c.args.blocks.now c.loop-b.b-index c.loop-b.part.items c.push_if.new.blocks.items c.is_part.result
    c.loop-b-test.true c.is_part.ensures c.loop-b.invariant c.in_ok-push_if.ensures

pub returns-clause-part : goal.returns-clause-part
returns-clause-part g c =
    c.loop-b.invariant
    ∙ ap (λ (xs : List ℕ). part_of c.args.wants_late c.args.start (version_of c.args.plan.now) xs) (take_all c.loop-b.b-index c.args.blocks.now c.loop-b-test.false)

pub returns-clause-known : goal.returns-clause-known
returns-clause-known g c =
    let part : c.loop-b.part.items ≡ part_of c.args.wants_late c.args.start (version_of c.args.plan.now) c.args.blocks.now =
    c.loop-b.invariant
    ∙ ap (λ (xs : List ℕ). part_of c.args.wants_late c.args.start (version_of c.args.plan.now) xs) (take_all c.loop-b.b-index c.args.blocks.now c.loop-b-test.false) in
    subst (All (λ b. b < c.args.plan.now.pit.blocks)) (sym part)
    (All-filter (is_part c.args.wants_late c.args.start (version_of c.args.plan.now)) (λ b. b < c.args.plan.now.pit.blocks) c.args.blocks.now c.requires.known)
