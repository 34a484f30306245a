use Rattle.std.proofs.Common.{ℤ, ℕ, List, length, map, ap, ◌∙◌}
use Rattle.std.proofs.lemmas.List.{with_items_is}
use Rattle.pit_model.specs.Inside.CoefficientRows.{all_rows, pairs_at}
use Rattle.pit_model.proofs.CoefficientCells.{rows_sorted, AreSorted-rows}
use Rattle.pit_model.proofs.coefficients.Coefficients.sorted.Goals as goal

pub returns : goal.returns
returns g c =
    let before = c.self.inside.cells.items in
    let now = c.sort_rows.new.cells in
    let rows = c.self.inside.rows.items in
    ap (λ (cells : List (ℕ × ℤ)). map (pairs_at cells) (all_rows c.self.inside.blocks rows)) (with_items_is c.self.inside.cells now (c.sort_rows.auto.cells ∙ c.deref_mut.ensures.len))
    ∙ rows_sorted before now rows c.self.inside.blocks (λ b. rw (← c.deref_mut.ensures.value, ← c.deref.ensures.value) (c.sort_rows.ensures b))
    ∙ c.self.view_is

pub invariant_of-result : goal.invariant_of-result
invariant_of-result g c =
    let before = c.self.inside.cells.items in
    let now = c.sort_rows.new.cells in
    rw (with_items_is c.self.inside.cells now (c.sort_rows.auto.cells ∙ c.deref_mut.ensures.len))
    (AreSorted-rows c.self.inside.blocks before now c.self.inside.rows.items c.args.self c.self.invariant c.self.view_is c.requires (c.sort_rows.auto.cells ∙ ap length c.deref_mut.ensures.value)
    (λ b. rw (← c.deref_mut.ensures.value, ← c.deref.ensures.value) (c.sort_rows.ensures b)))
