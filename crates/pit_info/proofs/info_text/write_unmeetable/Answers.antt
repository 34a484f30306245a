use Rattle.std.proofs.Common.{ℕ, ◌++◌, ◌∷◌, [], Option, codes, decimal, sym, subst}
use Rattle.std.specs.Io.KnownBytes.{Appends}
use Rattle.pit_num.proofs.CallerLemmas.{appends_more, map_ok}
use Rattle.pit_step.specs.LineTexts.{field_text}
use Rattle.pit_info.specs.InfoText.{unmeetable_text}
use Rattle.pit_info.proofs.info_text.write_unmeetable.Goals as goal

pub returns : goal.returns
returns g c =
    let found = c.in-Some.found in
    let start = g.W.Sink.contents c.args.w.now in
    let first = g.W.Sink.contents c.write_text-2.new.w in
    let second = g.W.Sink.contents c.write_field.new.w in
    let end = g.W.Sink.contents c.write_field-2.new.w in
    map_ok c.write_field-2.result
    (λ after. subst (λ (o : Option (ℕ × ℕ)). Appends start end (unmeetable_text o)) (sym c.in-Some.is)
    (appends_more start first end (codes "unmeetable ") (field_text found.0 32 ++ field_text found.1 10) c.in_ok-write_text.ensures.ok
    (appends_more first second end (field_text found.0 32) (field_text found.1 10)
    (subst (λ (n : ℕ). Appends first second (decimal n ++ 32 ∷ [])) c.from.ensures c.in_ok-write_field.ensures)
    (subst (λ (n : ℕ). Appends second end (decimal n ++ 10 ∷ [])) c.from-2.ensures after))))
    c.write_field-2.ensures
