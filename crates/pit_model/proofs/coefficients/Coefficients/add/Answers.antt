use Rattle.std.proofs.Common.{◌∙◌, subst, ℤ, w64, rules, arith}
use Rattle.std.proofs.lemmas.Int.{to_z-of_z}
use Rattle.std.proofs.lemmas.List.{with_items_is}
use Rattle.pit_model.specs.Inside.CoefficientRows.{IsPut}
use Rattle.pit_model.proofs.CoefficientCells.{always_err, row_len, rows_still, rows_added, pairs_added, AreKept-longer}
use Rattle.pit_model.proofs.coefficients.Coefficients.add.Goals as goal

pub returns-in_err-row-clause-err : goal.returns-in_err-row-clause-err
returns-in_err-row-clause-err g c =
    let same = rows_still c.self.inside.blocks c.self.inside.cells.items c.make_room.new.cells.items c.self.inside.rows.items c.fill_up.new.rows.items c.self.invariant c.in_ok-fill_up.ensures.ok c.make_room.ensures.kept in
    always_err c.from_residual-in_err-row.result (same ∙ c.self.view_is)

pub make_room-requires-clause-few : goal.make_room-requires-clause-few
make_room-requires-clause-few g c =
    let same = row_len c.self.inside.blocks c.self.inside.cells.items c.self.inside.rows.items c.fill_up.new.rows.items c.args.self.now c.args.b c.index.result.now c.self.invariant c.in_ok-fill_up.ensures.ok c.self.view_is c.requires.block c.index.ensures in
    omega (arith, same, c.requires.few)

pub invariant_of-self-in_err-row : goal.invariant_of-self-in_err-row
invariant_of-self-in_err-row g c = AreKept-longer c.self.inside.blocks c.self.inside.cells.items c.make_room.new.cells.items c.self.inside.rows.items c.fill_up.new.rows.items c.self.invariant c.in_ok-fill_up.ensures.ok c.make_room.ensures.kept

pub invariant_of-self-2 : goal.invariant_of-self-2
invariant_of-self-2 g c =
    let before = c.self.inside.cells.items in
    let after = c.deref_mut.result.now in
    let last = c.put-filled.new.cells in
    let put : IsPut after last c.in_ok-row.row c.put-filled.result (c.args.r, c.args.v) = subst (λ (v : ℤ). IsPut after last c.in_ok-row.row c.put-filled.result (c.args.r, v)) (to_z-of_z w64 c.args.v (search rules)) c.put-filled.ensures in
    rw (with_items_is c.make_room.new.cells last (c.put-filled.auto.cells ∙ c.deref_mut.ensures.len))
    (rows_added c.self.inside.blocks before after last c.self.inside.rows.items c.fill_up.new.rows.items c.args.self.now c.args.b c.index.result.now c.in_ok-row.row c.put-filled.result (c.args.r, c.args.v)
    c.self.invariant c.in_ok-fill_up.ensures.ok c.self.view_is c.requires.block c.index.ensures (rw c.deref_mut.ensures.value c.in_ok-row.ensures.kept) (rw c.deref_mut.ensures.value c.in_ok-row.ensures.room) put c.put-filled.auto.cells)

pub returns-clause-ok : goal.returns-clause-ok
returns-clause-ok g c =
    let before = c.self.inside.cells.items in
    let after = c.deref_mut.result.now in
    let last = c.put-filled.new.cells in
    let put : IsPut after last c.in_ok-row.row c.put-filled.result (c.args.r, c.args.v) = subst (λ (v : ℤ). IsPut after last c.in_ok-row.row c.put-filled.result (c.args.r, v)) (to_z-of_z w64 c.args.v (search rules)) c.put-filled.ensures in
    rw (with_items_is c.make_room.new.cells last (c.put-filled.auto.cells ∙ c.deref_mut.ensures.len))
    (pairs_added c.self.inside.blocks before after last c.self.inside.rows.items c.fill_up.new.rows.items c.args.self.now c.args.b c.index.result.now c.in_ok-row.row c.put-filled.result (c.args.r, c.args.v)
    c.self.invariant c.in_ok-fill_up.ensures.ok c.self.view_is c.requires.block c.index.ensures (rw c.deref_mut.ensures.value c.in_ok-row.ensures.kept) (rw c.deref_mut.ensures.value c.in_ok-row.ensures.room) put c.put-filled.auto.cells)
