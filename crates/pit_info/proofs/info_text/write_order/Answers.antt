use Rattle.std.proofs.Common.{ℕ, ◌++◌, ◌∷◌, [], Option, codes, subst}
use Rattle.std.specs.Io.KnownBytes.{Appends}
use Rattle.pit_num.proofs.CallerLemmas.{appends_more, map_ok}
use Rattle.pit_step.specs.LineTexts.{period_text}
use Rattle.pit_info.specs.Figures.{pair_count, root_count, highest_of}
use Rattle.pit_info.specs.InfoText.{count_text, order_text}
use Rattle.pit_info.proofs.info_text.write_order.Goals as goal

pub returns : goal.returns
unfolding order_text
returns g c =
    let pit = c.args.pit.now in
    let start = g.W.Sink.contents c.args.w.now in
    let first = g.W.Sink.contents c.write_count.new.w in
    let second = g.W.Sink.contents c.write_count-2.new.w in
    let third = g.W.Sink.contents c.write_text.new.w in
    let end = g.W.Sink.contents c.write_period.new.w in
    let pairs = count_text (codes "pairs ") (pair_count pit) in
    let roots = count_text (codes "roots ") (root_count pit) in
    let highest = period_text (highest_of pit) (10 ∷ []) in
    map_ok c.write_period.result
    (λ after. appends_more start first end pairs (roots ++ (codes "highest " ++ highest))
    (subst (λ (n : ℕ). Appends start first (count_text (codes "pairs ") n)) c.pairs.ensures c.in_ok-write_count.ensures)
    (appends_more first second end roots (codes "highest " ++ highest)
    (subst (λ (n : ℕ). Appends first second (count_text (codes "roots ") n)) c.roots.ensures c.in_ok-write_count-2.ensures)
    (appends_more second third end (codes "highest ") highest c.in_ok-write_text.ensures.ok
    (subst (λ (b : Option ℕ). Appends third end (period_text b (10 ∷ []))) c.highest.ensures after))))
    c.write_period.ensures
