use Rattle.std.proofs.Common.{ℕ, true, cond, List, ap, ◌∙◌, arith}
use Rattle.pit_plan.specs.Standing.{period_of, version_of}
use Rattle.pit_edit.specs.Changes.{Edit}
use Rattle.pit_edit.specs.EditText.{conflicts_text}
use Rattle.pit_edit.specs.Inside.Parts.{part_of}
use Rattle.pit_edit.specs.Inside.Reviews.{writer_in}
use Rattle.pit_edit.proofs.Reviewed.{reviewed}
use Rattle.pit_edit.proofs.review.review_with.Goals as goal

pub returns : goal.returns
returns g c =
    let plan = c.args.plan.now in
    let edit = c.args.edit.now in
    let start = c.edit.inside.start in
    reviewed c.args.is_partial edit plan c.args.makers.now c.args.changes.items c.in_ok-late.late.items c.in_ok-kept.kept.items start c.len-count.result c.left_out-left.result
    c.in_ok-conflicts.conflicts.items (ap (λ (e : Edit). e.start) c.edit.view_is) c.requires.changes
    (c.in_ok-late.ensures.part ∙ ap (λ (bs : List ℕ). part_of true start (version_of plan) bs) c.deref.ensures.value) c.in_ok-kept.ensures (omega (arith, c.len-count.ensures))
    (c.left_out-left.ensures ∙ ap (λ (n : ℕ). cond c.args.is_partial n 0) (omega (arith, c.len.ensures)))
    (c.in_ok-conflicts.ensures ∙ ap (λ (bs : List ℕ). conflicts_text edit (period_of plan) (writer_in plan c.args.makers.now) bs) c.deref-2.ensures.value)
