use Rattle.std.proofs.Common.{ℕ, ◌++◌, ◌∷◌, [], codes, decimal, subst}
use Rattle.std.specs.Io.KnownBytes.{Appends}
use Rattle.pit_num.proofs.CallerLemmas.{appends_more, map_ok}
use Rattle.pit_step.specs.LineTexts.{field_text, period_text}
use Rattle.pit_all.specs.AllText.{out_text}
use Rattle.pit_all.proofs.all_text.write_out.Goals as goal

pub returns : goal.returns
unfolding out_text
returns g c =
    let pair = c.args.pair in
    let start = g.W.Sink.contents c.args.w.now in
    let first = g.W.Sink.contents c.write_text.new.w in
    let second = g.W.Sink.contents c.write_field.new.w in
    let third = g.W.Sink.contents c.write_field-2.new.w in
    let fourth = g.W.Sink.contents c.write_period.new.w in
    let end = g.W.Sink.contents c.write_period-2.new.w in
    let period = period_text pair.period (32 ∷ []) in
    let earlier = period_text pair.earlier (10 ∷ []) in
    map_ok c.write_period-2.result
    (λ after. appends_more start first end (codes "precedence ") (field_text pair.block 32 ++ (field_text pair.before 32 ++ (period ++ earlier))) c.in_ok-write_text.ensures.ok
    (appends_more first second end (field_text pair.block 32) (field_text pair.before 32 ++ (period ++ earlier))
    (subst (λ (n : ℕ). Appends first second (decimal n ++ 32 ∷ [])) c.from.ensures c.in_ok-write_field.ensures)
    (appends_more second third end (field_text pair.before 32) (period ++ earlier)
    (subst (λ (n : ℕ). Appends second third (decimal n ++ 32 ∷ [])) c.from-2.ensures c.in_ok-write_field-2.ensures)
    (appends_more third fourth end period earlier c.in_ok-write_period.ensures after))))
    c.write_period-2.ensures
