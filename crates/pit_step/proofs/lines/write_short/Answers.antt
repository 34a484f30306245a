use Rattle.std.proofs.Common.{◌∷◌, [], ◌++◌, ℤ, codes, subst, rules, ◌∙◌}
use Rattle.std.specs.Int.{w64, w128}
use Rattle.std.specs.Io.KnownBytes.{Appends}
use Rattle.std.proofs.Common.{to_z, of_z}
use Rattle.std.proofs.lemmas.Int.{to_z-of_z}
use Rattle.pit_num.proofs.CallerLemmas.{appends_more, map_ok}
use Rattle.pit_step.specs.LineTexts.{load_words}
use Rattle.pit_step.proofs.lines.write_short.Goals as goal

pub returns : goal.returns
returns g c =
    let start = g.W.Sink.contents c.args.w.now in
    let first = g.W.Sink.contents c.write_text.new.w in
    let second = g.W.Sink.contents c.write_load.new.w in
    let end = g.W.Sink.contents c.write_text-2.new.w in
    let load = to_z-of_z w128 c.args.short.load (search rules) in
    let limit = to_z-of_z w128 c.from.result (search rules) ∙ c.from.ensures ∙ to_z-of_z w64 c.args.short.limit (search rules) in
    let words = load_words c.args.short.resource c.args.short.period c.args.short.load c.args.short.limit in
    map_ok c.write_text-2.result
    (λ after. appends_more start first end (codes "short ") (words ++ 10 ∷ []) c.in_ok-write_text.ensures.ok
    (appends_more first second end words (10 ∷ [])
    (subst (λ (z : ℤ). Appends first second (load_words c.args.short.resource c.args.short.period c.args.short.load z)) limit
    (subst (λ (z : ℤ). Appends first second (load_words c.args.short.resource c.args.short.period z (to_z w128 (of_z w128 c.from.result)))) load c.in_ok-write_load.ensures))
    after))
    c.write_text-2.ensures.ok
