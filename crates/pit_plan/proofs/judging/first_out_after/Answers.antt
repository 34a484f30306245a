use Rattle.std.proofs.Common.{rules, ◌≡◌, ℕ, List, [], ◌∷◌, length, Option, None, refl, ap, subst, ◌∙◌, arith}
use Rattle.std.specs.Prelude.{slice_index_or}
use Rattle.pit_num.specs.Least.{ComesBefore, IsLeast}
use Rattle.pit_plan.specs.Schedule.{Writes, by_block}
use Rattle.pit_plan.specs.Inside.Plan.{with_writes}
use Rattle.pit_plan.specs.Inside.Touched.{overlaid_item, IsOutNear}
use Rattle.pit_plan.proofs.Slots.{length-with_writes, with_writes-overlaid}
use Rattle.pit_plan.proofs.Touched.{out_near-same}
use Rattle.pit_plan.proofs.judging.first_out_after.Goals as goal

-- the one write of a list of one
only : (writes : Writes) → length writes ≡ 1 → slice_index_or writes 0 (0, None) ∷ [] ≡ writes
only [] one = absurd (omega (arith, one))
only (w ∷ []) one = refl
only (w ∷ (v ∷ more)) one = absurd (omega (arith, one))

pub returns-then-writes-eq1-clause-least : goal.returns-then-writes-eq1-clause-least
returns-then-writes-eq1-clause-least g c =
    subst (λ (writes : Writes). IsLeast ComesBefore (IsOutNear c.args.pit.now (overlaid_item (by_block c.args.tally.now.periods) writes) c.args.writes.now) c.first_out_near.result)
    (only c.args.writes.now (search rules)) (search rules)

pub first_out_near-requires-then-writes-many-clause-same : goal.first_out_near-requires-then-writes-many-clause-same
first_out_near-requires-then-writes-many-clause-same g c =
    let kept : c.as_slice-kept.result.now ≡ c.args.tally.now.periods = search rules in
    ap length c.in_ok-after.ensures ∙ (length-with_writes (λ w. w.1) c.as_slice-kept.result.now c.args.writes.now ∙ (ap length kept ∙ c.requires.tally.each_period))

pub returns-then-writes-many-clause-least : goal.returns-then-writes-many-clause-least
returns-then-writes-many-clause-least g c =
    let pit = c.args.pit.now in
    let writes = c.args.writes.now in
    let periods = c.args.tally.now.periods in
    let kept : c.as_slice-kept.result.now ≡ periods = search rules in
    let after : c.in_ok-after.after.items ≡ with_writes (λ w. w.1) periods writes = c.in_ok-after.ensures ∙ ap (λ (ps : List (Option ℕ)). with_writes (λ w. w.1) ps writes) kept in
    out_near-same pit (by_block c.in_ok-after.after.items) (overlaid_item (by_block periods) writes) writes c.first_out_near-then-writes-many.result
    (λ b. ap (λ (ps : List (Option ℕ)). by_block ps b) after
    ∙ with_writes-overlaid periods writes b c.requires.fits.once (λ k d l. omega (arith, c.requires.fits.keys k d l, c.requires.tally.each_period)))
    c.first_out_near-then-writes-many.ensures
