use Rattle.std.proofs.Common.{ℕ, List, sym, subst}
use Rattle.std.specs.Io.KnownBytes.{Appends}
use Rattle.pit_num.proofs.CallerLemmas.{appends_nothing, appends_more}
use Rattle.pit_all.proofs.Pieces.{overs-none, overs-more}
use Rattle.pit_all.proofs.all_text.write_overs.Goals as goal

pub loop-over-init : goal.loop-over-init
loop-over-init g c = subst (λ (xs : List ℕ). Appends (g.W.Sink.contents c.args.w.now) (g.W.Sink.contents c.args.w.now) xs) (sym overs-none) (appends_nothing (g.W.Sink.contents c.args.w.now))

pub loop-over-preserved : goal.loop-over-preserved
loop-over-preserved g c =
    subst (λ (xs : List ℕ). Appends (g.W.Sink.contents c.args.w.now) (g.W.Sink.contents c.write_breach.new.w) xs) (sym (overs-more c.args.overs.now c.loop-over.over-index _ c.loop-over-test.true))
    (appends_more _ _ _ _ _ c.loop-over.invariant c.in_ok-write_breach.ensures)
