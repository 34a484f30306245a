use Rattle.std.proofs.Common.{ℤ, codes, subst, rules, ◌∙◌}
use Rattle.std.specs.Int.{w64, w128}
use Rattle.std.specs.Io.KnownBytes.{Appends}
use Rattle.std.proofs.Common.{to_z, of_z}
use Rattle.std.proofs.lemmas.Int.{to_z-of_z}
use Rattle.pit_num.proofs.CallerLemmas.{appends_more, map_ok}
use Rattle.pit_step.specs.LineTexts.{load_words}
use Rattle.pit_step.proofs.lines.write_over.Goals as goal

pub returns : goal.returns
returns g c =
    let start = g.W.Sink.contents c.args.w.now in
    let first = g.W.Sink.contents c.write_text.new.w in
    let end = g.W.Sink.contents c.write_load.new.w in
    let load = to_z-of_z w128 c.args.load c.ranges.load in
    let limit = to_z-of_z w128 c.from.result (search rules) ∙ c.from.ensures ∙ to_z-of_z w64 c.args.limit c.ranges.limit in
    map_ok c.write_load.result
    (λ after. appends_more start first end (codes "over ") (load_words c.args.resource c.args.period c.args.load c.args.limit) c.in_ok-write_text.ensures.ok
    (subst (λ (z : ℤ). Appends first end (load_words c.args.resource c.args.period c.args.load z)) limit
    (subst (λ (z : ℤ). Appends first end (load_words c.args.resource c.args.period z (to_z w128 (of_z w128 c.from.result)))) load after)))
    c.write_load.ensures
