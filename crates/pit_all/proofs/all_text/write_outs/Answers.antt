use Rattle.std.proofs.Common.{ℕ, List, sym, subst}
use Rattle.std.specs.Io.KnownBytes.{Appends}
use Rattle.pit_num.proofs.CallerLemmas.{appends_nothing, appends_more}
use Rattle.pit_all.proofs.Pieces.{outs-none, outs-more}
use Rattle.pit_all.proofs.all_text.write_outs.Goals as goal

pub loop-pair-init : goal.loop-pair-init
loop-pair-init g c = subst (λ (xs : List ℕ). Appends (g.W.Sink.contents c.args.w.now) (g.W.Sink.contents c.args.w.now) xs) (sym outs-none) (appends_nothing (g.W.Sink.contents c.args.w.now))

pub loop-pair-preserved : goal.loop-pair-preserved
loop-pair-preserved g c =
    subst (λ (xs : List ℕ). Appends (g.W.Sink.contents c.args.w.now) (g.W.Sink.contents c.write_out.new.w) xs) (sym (outs-more c.args.outs.now c.loop-pair.pair-index _ c.loop-pair-test.true))
    (appends_more _ _ _ _ _ c.loop-pair.invariant c.in_ok-write_out.ensures)
