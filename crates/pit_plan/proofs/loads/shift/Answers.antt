use Rattle.std.proofs.Common.{to_z, of_z, ◌≡◌, ◌<◌, ◌≤◌, ◌+ℤ◌, ℕ, ℤ, pos, FitsSigned, List, Option, length, get_or, ap, subst, sym, ◌∙◌, arith, rules}
use Rattle.std.specs.Prelude.{IfSome}
use Rattle.std.specs.Int.{w128}
use Rattle.std.proofs.lemmas.List.{take_all}
use Rattle.pit_model.specs.Pit.{AreCoefs, coefs_of, cell_of}
use Rattle.pit_plan.specs.Schedule.{coef_in, coef_of}
use Rattle.pit_plan.specs.Inside.Totals.{signed_coef, Moves, MovesIn, Raises}
use Rattle.pit_plan.specs.Limits.{at_cell}
use Rattle.pit_plan.proofs.Named.{once-from_rising}
use Rattle.pit_plan.proofs.Cells.{moves-one, moves-more, room-more}
use Rattle.pit_plan.proofs.loads.shift.Goals as goal

pub add-requires-clause-within : goal.add-requires-clause-within
add-requires-clause-within g c = omega (arith, c.cell.ensures.within, ap length c.loop-r.invariant.stays, c.requires.cells)

pub add-requires-clause-room : goal.add-requires-clause-room
add-requires-clause-room g c =
    let pit = c.args.pit.now in
    let is = c.coefs-r-items.ensures.value in
    let k = c.loop-r.r-index in
    let t = c.in-Some.t in
    let sound = subst (AreCoefs pit.resources) is c.coefs-r-items.ensures.sound in
    let within = subst (λ (xs : List (ℕ × ℤ)). k < length xs) is c.loop-r-test.true in
    let signed : to_z w128 (of_z w128 c.signed.result) ≡ signed_coef c.args.up (get_or (coefs_of pit c.args.b) k (0, pos 0)).1 = search rules in
    let cell : c.cell.result ≡ cell_of pit (get_or (coefs_of pit c.args.b) k (0, pos 0)).0 t = c.cell.ensures.cell ∙ ap (λ (xs : List (ℕ × ℤ)). cell_of pit (get_or xs k (0, pos 0)).0 t) is in
    rw (signed, cell)
    (room-more pit (at_cell pit (g.L.Loads.load_in c.args.loads.now)) (at_cell pit (g.L.Loads.load_in c.loop-r.loads)) c.args.b t c.args.up k (0, pos 0) (once-from_rising _ sound.rising) within
    (sound.in_range k (0, pos 0) within)
    (subst (λ (p : Option ℕ). IfSome p (λ u. (r : ℕ) → r < pit.resources → FitsSigned w128 (at_cell pit (g.L.Loads.load_in c.args.loads.now) r u +ℤ signed_coef c.args.up (coef_of pit c.args.b r)))) c.in-Some.is c.requires.room)
    c.loop-r.invariant.moves)

pub loop-r-preserved : goal.loop-r-preserved
loop-r-preserved g c =
    let pit = c.args.pit.now in
    let is = c.coefs-r-items.ensures.value in
    let k = c.loop-r.r-index in
    let t = c.in-Some.t in
    let sound = subst (AreCoefs pit.resources) is c.coefs-r-items.ensures.sound in
    let within = subst (λ (xs : List (ℕ × ℤ)). k < length xs) is c.loop-r-test.true in
    let pair = get_or (coefs_of pit c.args.b) k (0, pos 0) in
    let lr = sound.in_range k (0, pos 0) within in
    let signed : to_z w128 (of_z w128 c.signed.result) ≡ signed_coef c.args.up pair.1 = search rules in
    let cell : c.cell.result ≡ cell_of pit pair.0 t = c.cell.ensures.cell ∙ ap (λ (xs : List (ℕ × ℤ)). cell_of pit (get_or xs k (0, pos 0)).0 t) is in
    let raises = subst (λ (n : ℕ). Raises (g.L.Loads.load_in c.loop-r.loads) n (signed_coef c.args.up pair.1) (g.L.Loads.load_in c.add.new.self)) cell
    (subst (λ (z : ℤ). Raises (g.L.Loads.load_in c.loop-r.loads) c.cell.result z (g.L.Loads.load_in c.add.new.self)) signed c.in_ok-add.ensures.raises) in
    record {
      sound = c.in_ok-add.ensures.sound;
      stays = c.in_ok-add.ensures.stays ∙ c.loop-r.invariant.stays;
      moves = moves-more pit (at_cell pit (g.L.Loads.load_in c.args.loads.now)) t c.args.up (coefs_of pit c.args.b) k (0, pos 0) (at_cell pit (g.L.Loads.load_in c.loop-r.loads))
          (at_cell pit (g.L.Loads.load_in c.add.new.self)) (once-from_rising _ sound.rising) within lr c.loop-r.invariant.moves
          (moves-one pit (g.L.Loads.load_in c.loop-r.loads) (g.L.Loads.load_in c.add.new.self) pair.0 t (signed_coef c.args.up pair.1) lr raises);
    }

pub returns-clause-moves : goal.returns-clause-moves
returns-clause-moves g c =
    let pit = c.args.pit.now in
    subst (λ (p : Option ℕ). MovesIn pit (at_cell pit (g.L.Loads.load_in c.args.loads.now)) p (λ r. signed_coef c.args.up (coef_of pit c.args.b r)) (at_cell pit (g.L.Loads.load_in c.loop-r.loads))) (sym c.in-Some.is)
    (subst (λ (xs : List (ℕ × ℤ)). Moves pit (at_cell pit (g.L.Loads.load_in c.args.loads.now)) c.in-Some.t (λ r. signed_coef c.args.up (coef_in xs r)) (at_cell pit (g.L.Loads.load_in c.loop-r.loads)))
    (take_all c.loop-r.r-index (coefs_of pit c.args.b) (subst (λ (xs : List (ℕ × ℤ)). length xs ≤ c.loop-r.r-index) c.coefs-r-items.ensures.value c.loop-r-test.false)) c.loop-r.invariant.moves)
