use Rattle.std.proofs.Common.{ℕ, List, ap, subst, arith}
use Rattle.std.specs.Prelude.{flat_map}
use Rattle.std.specs.List.{range_with_len}
use Rattle.std.specs.Io.KnownBytes.{Appends}
use Rattle.pit_model.specs.Pit.{Pit}
use Rattle.pit_diff.specs.DiffText.{by_cell}
use Rattle.pit_diff.specs.Inside.Cells.{cell_change}
use Rattle.pit_diff.proofs.Lines.{appends-pushed}
use Rattle.pit_diff.proofs.cells.write_cells.Goals as goal

pub loop-t-preserved : goal.loop-t-preserved
loop-t-preserved g c = λ before after stands also.
    let pit = c.args.old.now.pit in
    let row : ℕ → List ℕ = λ (t : ℕ). flat_map (λ (r : ℕ). cell_change c.args.quantity pit before after r t) (range_with_len 0 pit.resources) in
    appends-pushed (g.W.Sink.contents c.args.w.now) (g.W.Sink.contents c.loop-t.w) (g.W.Sink.contents c.write_cells_in.new.w) row c.loop-t.t (c.loop-t.invariant before after stands also)
    (c.in_ok-write_cells_in.ensures before after stands also)

pub returns : goal.returns
unfolding by_cell
returns g c = λ before after stands also.
    let pit = c.args.old.now.pit in
    let row : ℕ → List ℕ = λ (t : ℕ). flat_map (λ (r : ℕ). cell_change c.args.quantity pit before after r t) (range_with_len 0 pit.resources) in
    subst (λ (n : ℕ). Appends (g.W.Sink.contents c.args.w.now) (g.W.Sink.contents c.loop-t.w) (flat_map row (range_with_len 0 n)))
    (let same = ap (λ (p : Pit). p.periods) c.deposit.ensures in omega (arith, same, c.loop-t-test.false, c.loop-t.auto.t-end, c.periods-t-end.ensures)) (c.loop-t.invariant before after stands also)
