use Rattle.std.proofs.Common.{ℕ, List, not, ap, sym, subst}
use Rattle.std.specs.Io.KnownBytes.{Appends}
use Rattle.pit_num.proofs.CallerLemmas.{appends_nothing, appends_more}
use Rattle.pit_info.specs.Figures.{is_unlimited}
use Rattle.pit_info.proofs.Lines.{unlimited-none, unlimited-more}
use Rattle.pit_info.proofs.info_text.write_unlimited.Goals as goal

pub loop-r-init : goal.loop-r-init
loop-r-init g c = subst (λ (xs : List ℕ). Appends (g.W.Sink.contents c.args.w.now) (g.W.Sink.contents c.args.w.now) xs) (sym unlimited-none) (appends_nothing (g.W.Sink.contents c.args.w.now))

pub loop-r-preserved : goal.loop-r-preserved
loop-r-preserved g c =
    subst (λ (xs : List ℕ). Appends (g.W.Sink.contents c.args.w.now) (g.W.Sink.contents c.write_unless.new.w) xs)
    (sym (unlimited-more (is_unlimited c.args.pit.now) c.loop-r.r c.is_limited.result (ap not (sym c.is_limited.ensures))))
    (appends_more _ _ _ _ _ c.loop-r.invariant c.in_ok-write_unless.ensures)
