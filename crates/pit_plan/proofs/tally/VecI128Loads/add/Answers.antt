use Rattle.std.proofs.Common.{◌≡◌, ◌+ℤ◌, ℕ, ℤ, pos, List, length, length-set, get_or, sym, ap, subst, ◌∙◌, arith, rules}
use Rattle.std.specs.Prelude.{replicate, slice_set}
use Rattle.std.specs.Int.{w128}
use Rattle.std.proofs.lemmas.Int.{to_z-of_z}
use Rattle.std.proofs.lemmas.List.{length-replicate}
use Rattle.pit_plan.specs.Inside.Totals.{cell_load, Raises}
use Rattle.pit_plan.proofs.Cells.{raises-set}
use Rattle.pit_plan.proofs.tally.VecI128Loads.add.Goals as goal

pub add_at-requires-clause-within : goal.add_at-requires-clause-within
add_at-requires-clause-within g c = omega (arith, c.requires.within, length-replicate (length c.args.self.now.items) (pos 0))

pub returns-clause-stays : goal.returns-clause-stays
returns-clause-stays g c = ap (λ (n : ℕ). replicate n (pos 0)) (ap length c.add_at.ensures ∙ length-set _ _ _)

pub returns-clause-raises : goal.returns-clause-raises
returns-clause-raises g c =
    let items = c.args.self.now.items in
    let set : c.add_at.new.loads.items ≡ slice_set items c.args.cell (get_or items c.args.cell (pos 0) +ℤ c.args.term) =
    c.add_at.ensures ∙ ap (λ (z : ℤ). slice_set items c.args.cell (get_or items c.args.cell (pos 0) +ℤ z)) (to_z-of_z w128 c.args.term (search rules)) in
    subst (λ (xs : List ℤ). Raises (cell_load items) c.args.cell c.args.term (cell_load xs)) (sym set)
    (raises-set c.args.self.now.items c.args.cell c.args.term (omega (arith, c.requires.within, length-replicate (length c.args.self.now.items) (pos 0))))
