use Rattle.std.proofs.Common.{ℕ, ◌++◌, codes, subst}
use Rattle.std.specs.Io.KnownBytes.{Appends}
use Rattle.pit_num.proofs.CallerLemmas.{appends_more, map_ok}
use Rattle.pit_info.specs.Figures.{profit_count, coef_count, lower_count, upper_count}
use Rattle.pit_info.specs.InfoText.{count_text, amounts_text}
use Rattle.pit_info.proofs.info_text.write_amounts.Goals as goal

pub returns : goal.returns
unfolding amounts_text
returns g c =
    let pit = c.args.pit.now in
    let start = g.W.Sink.contents c.args.w.now in
    let first = g.W.Sink.contents c.write_count.new.w in
    let second = g.W.Sink.contents c.write_count-2.new.w in
    let third = g.W.Sink.contents c.write_count-3.new.w in
    let end = g.W.Sink.contents c.write_count-4.new.w in
    let profits = count_text (codes "profits ") (profit_count pit) in
    let coefs = count_text (codes "coefficients ") (coef_count pit) in
    let lowers = count_text (codes "lower ") (lower_count pit) in
    let uppers = count_text (codes "upper ") (upper_count pit) in
    map_ok c.write_count-4.result
    (λ after. appends_more start first end profits (coefs ++ (lowers ++ uppers))
    (subst (λ (n : ℕ). Appends start first (count_text (codes "profits ") n)) c.profits.ensures c.in_ok-write_count.ensures)
    (appends_more first second end coefs (lowers ++ uppers)
    (subst (λ (n : ℕ). Appends first second (count_text (codes "coefficients ") n)) c.coefficients.ensures c.in_ok-write_count-2.ensures)
    (appends_more second third end lowers uppers
    (subst (λ (n : ℕ). Appends second third (count_text (codes "lower ") n)) c.lowers.ensures c.in_ok-write_count-3.ensures)
    (subst (λ (n : ℕ). Appends third end (count_text (codes "upper ") n)) c.uppers.ensures after))))
    c.write_count-4.ensures
