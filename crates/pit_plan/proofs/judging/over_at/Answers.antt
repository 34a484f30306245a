use Rattle.std.proofs.Common.{◌≡◌, ◌/◌, ◌%◌, ℕ, ℤ, pos, false, get_or, Option, Some, sym, ap, subst, ◌∙◌, rules}
use Rattle.std.specs.Prelude.{is_some, nat_eq}
use Rattle.std.specs.Map.{lookup}
use Rattle.pit_num.specs.Least.{ComesBefore, IsLeastOf}
use Rattle.pit_model.specs.Pit.{cell_of}
use Rattle.pit_plan.specs.Schedule.{is_within}
use Rattle.pit_plan.specs.Limits.{at_cell}
use Rattle.pit_plan.specs.Inside.Touched.{IsOverAt}
use Rattle.pit_plan.proofs.Touched.{cell-over}
use Rattle.pit_plan.proofs.judging.over_at.Goals as goal

pub returns : goal.returns
returns g c =
    let pit = c.args.pit.now in
    let cells = c.args.cells.now in
    let lim = g.L.Limits.limit_in c.args.limits.now in
    let cell = c.at-cell.result.0 in
    let load = c.at-cell.result.1 in
    let key : cell ≡ (get_or cells c.args.i (0, pos 0)).0 = c.at-cell.ensures.cell in
    let value : lookup (nat_eq cell) cells ≡ Some load = c.at-cell.ensures.load in
    let fails : is_within load (Some c.in_ok-limit.limit) ≡ false = search rules in
    subst (λ (k : ℕ). IsLeastOf ComesBefore (λ p. IsOverAt pit (at_cell pit lim) cells p × (cell_of pit p.1 p.0 ≡ k)) (cell / c.resources.result, cell % c.resources-2.result)) key
    (cell-over pit lim cells cell c.resources.result c.resources-2.result load c.in_ok-limit.limit c.resources.ensures c.resources-2.ensures
    (c.requires.cells cell (ap (λ (v : Option ℤ). is_some v) value)) value (sym c.limit.ensures ∙ c.in_ok-limit.was) fails)
