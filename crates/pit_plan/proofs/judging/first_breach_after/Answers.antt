use Rattle.std.proofs.Common.{◌≡◌, ℕ, ℤ, List, [], Option, None, sym, subst, rules}
use Rattle.std.proofs.lemmas.List.{nil_from_length}
use Rattle.std.specs.Prelude.{IfNone, IfSome}
use Rattle.pit_num.specs.Least.{ComesBefore, IsLeast}
use Rattle.pit_model.specs.Pit.{Pit}
use Rattle.pit_model.specs.Fitting.{revisions_of}
use Rattle.pit_plan.specs.Schedule.{Writes, by_block}
use Rattle.pit_plan.specs.Limits.{cell_limit, at_cell}
use Rattle.pit_plan.specs.Inside.Limits.{by_cell}
use Rattle.pit_plan.specs.Breaches.{IsFirstBreach, IsGood, IsOrdered, IsOutOfOrder, IsUnderLimits}
use Rattle.pit_plan.specs.Inside.Totals.{IsTally}
use Rattle.pit_plan.specs.Inside.Touched.{overlaid_item, IsOutNear, IsOverAt, IsLeastOver}
use Rattle.pit_plan.proofs.Good.{ordered-from_none}
use Rattle.pit_plan.proofs.Touched.{least-after, over-found, moved-looked, revised-looked}
use Rattle.pit_plan.proofs.judging.first_breach_after.Goals as goal

pub returns-then-is_empty-2-clause-breach : goal.returns-then-is_empty-2-clause-breach
returns-then-is_empty-2-clause-breach g c = λ good.
    let pit = c.args.pit.now in
    let s = by_block c.args.tally.now.periods in
    let limits = cell_limit c.args.limits.now in
    let no_writes : c.args.writes.now ≡ [] = nil_from_length c.args.writes.now (search rules) in
    let no_revises : c.args.revises.now ≡ [] = nil_from_length c.args.revises.now (search rules) in
    subst (λ (writes : Writes). IsGood pit (overlaid_item s writes) (at_cell pit (overlaid_item limits (by_cell pit (revisions_of c.args.revises.now))))) (sym no_writes)
    (subst (λ (triples : List (ℕ × ℕ × Option ℤ)). IsGood pit s (at_cell pit (overlaid_item limits (by_cell pit (revisions_of triples))))) (sym no_revises) good)

pub returns-in-Some-clause-breach : goal.returns-in-Some-clause-breach
returns-in-Some-clause-breach g c = λ good.
    let pit = c.args.pit.now in
    let writes = c.args.writes.now in
    let s = by_block c.args.tally.now.periods in
    let near : IsLeast ComesBefore (IsOutNear pit (overlaid_item s writes) writes) c.in_ok-out.out = c.in_ok-out.ensures.least in
    subst (IsLeast ComesBefore (IsOutOfOrder pit (overlaid_item s writes))) c.in-Some.is (least-after pit s writes c.in_ok-out.out good.ordered near)

pub returns-clause-breach : goal.returns-clause-breach
returns-clause-breach g c = λ good.
    let writes = c.args.writes.now in
    let s = by_block c.args.tally.now.periods in
    let limits = cell_limit c.args.limits.now in
    let triples = c.args.revises.now in
    let breach = c.first_over_after.result in
    let at = c.deposit-pit.result.now in
    let same = c.deposit-pit.ensures in
    let revised = by_cell at (revisions_of triples) in
    let loads = c.look_at_revised.new.loads in
    let looks = c.in_ok-look_at_revised.ensures.looks in
    let near : IsLeast ComesBefore (IsOutNear c.args.pit.now (overlaid_item s writes) writes) c.in_ok-out.out = c.in_ok-out.ensures.least in
    let ordered = ordered-from_none c.args.pit.now (overlaid_item s writes)
    (subst (IsLeast ComesBefore (IsOutOfOrder c.args.pit.now (overlaid_item s writes))) c.in_default.is (least-after c.args.pit.now s writes c.in_ok-out.out good.ordered near)) in
    subst (λ (p : Pit). IsFirstBreach p (overlaid_item s writes) (at_cell p (overlaid_item limits (by_cell p (revisions_of triples)))) breach) same
    (over-found at c.args.tally.now writes loads.kept.now loads.cells (at_cell at limits) (at_cell at (overlaid_item limits revised)) breach
    (subst (λ (p : Pit). IsTally p c.args.tally.now) (sym same) c.requires.tally)
    (moved-looked at c.args.tally.now writes revised c.in_ok-loads.loads.kept.now loads.kept.now c.in_ok-loads.loads.cells loads.cells c.in_ok-loads.ensures looks)
    (revised-looked at limits revised loads.cells looks.named)
    (subst (λ (p : Pit). IsUnderLimits p s (at_cell p limits)) (sym same) good.within) (subst (λ (p : Pit). IsOrdered p (overlaid_item s writes)) (sym same) ordered)
    (subst (λ (xs : List (ℕ × Option ℤ)). IfNone breach (IsLeast ComesBefore (IsOverAt at (at_cell at (overlaid_item limits xs)) loads.cells) None)) c.in_ok-revised.ensures.entries c.first_over_after.ensures.none)
    (subst (λ (xs : List (ℕ × Option ℤ)). IfSome breach (IsLeastOver at (at_cell at (overlaid_item limits xs)) loads.cells)) c.in_ok-revised.ensures.entries c.first_over_after.ensures.some))
