use Rattle.std.specs.Prelude.{◌++◌, ◌∷◌, [], ℕ, codes, decimal}
use Rattle.std.specs.Io.KnownBytes.{Appends}
use Rattle.std.proofs.Common.{subst}
use Rattle.pit_num.proofs.CallerLemmas.{appends_more, map_ok}
use Rattle.pit_step.specs.LineTexts.{field_text}
use Rattle.pit_step.proofs.lines.write_precedence.Goals as goal

pub returns : goal.returns
returns g c =
    let start = g.W.Sink.contents c.args.w.now in
    let first = g.W.Sink.contents c.write_text.new.w in
    let second = g.W.Sink.contents c.write_field.new.w in
    let end = g.W.Sink.contents c.write_whole.new.w in
    map_ok c.write_whole.result
    (λ after. appends_more start first end (codes "precedence ") (field_text c.args.block 32 ++ decimal c.args.before) c.in_ok-write_text.ensures.ok
    (appends_more first second end (field_text c.args.block 32) (decimal c.args.before)
    (subst (λ (n : ℕ). Appends first second (decimal n ++ 32 ∷ [])) c.from.ensures c.in_ok-write_field.ensures) after))
    c.write_whole.ensures.ok
