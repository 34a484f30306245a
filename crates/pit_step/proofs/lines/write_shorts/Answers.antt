use Rattle.std.proofs.Common.{ℕ, List, sym, subst}
use Rattle.std.specs.Io.KnownBytes.{Appends}
use Rattle.pit_num.proofs.CallerLemmas.{appends_nothing, appends_more}
use Rattle.pit_step.proofs.Shorts.{shorts_none, shorts_more}
use Rattle.pit_step.proofs.lines.write_shorts.Goals as goal

pub loop-short-init : goal.loop-short-init
loop-short-init g c = subst (λ (xs : List ℕ). Appends (g.W.Sink.contents c.args.w.now) (g.W.Sink.contents c.args.w.now) xs) (sym shorts_none) (appends_nothing (g.W.Sink.contents c.args.w.now))

pub loop-short-preserved : goal.loop-short-preserved
loop-short-preserved g c =
    subst (λ (xs : List ℕ). Appends (g.W.Sink.contents c.args.w.now) (g.W.Sink.contents c.write_short.new.w) xs) (sym (shorts_more c.args.shorts.now c.loop-short.short-index _ c.loop-short-test.true))
    (appends_more _ _ _ _ _ c.loop-short.invariant c.in_ok-write_short.ensures)
