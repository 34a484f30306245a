use Rattle.std.proofs.Common.{ℕ, List, ap, subst, arith}
use Rattle.std.specs.Prelude.{flat_map}
use Rattle.std.specs.List.{range_with_len}
use Rattle.std.specs.Io.KnownBytes.{Appends}
use Rattle.pit_model.specs.Pit.{Pit}
use Rattle.pit_diff.specs.Inside.Cells.{cell_change}
use Rattle.pit_diff.proofs.Lines.{appends-pushed}
use Rattle.pit_diff.proofs.cells.write_cells_in.Goals as goal

pub loop-r-preserved : goal.loop-r-preserved
loop-r-preserved g c = λ before after stands also.
    let piece : ℕ → List ℕ = λ (r : ℕ). cell_change c.args.quantity c.args.old.now.pit before after r c.args.t in
    appends-pushed (g.W.Sink.contents c.args.w.now) (g.W.Sink.contents c.loop-r.w) (g.W.Sink.contents c.write_cell.new.w) piece c.loop-r.r (c.loop-r.invariant before after stands also)
    (c.in_ok-write_cell.ensures before after stands also)

pub returns : goal.returns
returns g c = λ before after stands also.
    let piece : ℕ → List ℕ = λ (r : ℕ). cell_change c.args.quantity c.args.old.now.pit before after r c.args.t in
    subst (λ (n : ℕ). Appends (g.W.Sink.contents c.args.w.now) (g.W.Sink.contents c.loop-r.w) (flat_map piece (range_with_len 0 n)))
    (let same = ap (λ (p : Pit). p.resources) c.deposit.ensures in omega (arith, same, c.loop-r-test.false, c.loop-r.auto.r-end, c.resources-r-end.ensures)) (c.loop-r.invariant before after stands also)
