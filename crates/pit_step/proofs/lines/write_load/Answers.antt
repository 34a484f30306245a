use Rattle.std.proofs.Common.{◌++◌, ◌∷◌, [], ℕ, ℤ, decimal, subst}
use Rattle.std.specs.Int.{w128}
use Rattle.std.specs.Io.KnownBytes.{Appends}
use Rattle.std.proofs.lemmas.Int.{to_z-of_z}
use Rattle.pit_num.specs.Printed.{fixed_text}
use Rattle.pit_num.proofs.CallerLemmas.{appends_more, map_ok}
use Rattle.pit_step.specs.LineTexts.{field_text, micro_text, load_words}
use Rattle.pit_step.proofs.lines.write_load.Goals as goal

pub returns : goal.returns
unfolding load_words
returns g c =
    let start = g.W.Sink.contents c.args.w.now in
    let first = g.W.Sink.contents c.write_field.new.w in
    let second = g.W.Sink.contents c.write_field-2.new.w in
    let third = g.W.Sink.contents c.write_amount.new.w in
    let end = g.W.Sink.contents c.write_micro.new.w in
    let load = micro_text c.args.load 32 in
    let limit = fixed_text 6 c.args.limit in
    map_ok c.write_micro.result
    (λ after. appends_more start first end (field_text c.args.resource 32) (field_text c.args.period 32 ++ (load ++ limit))
    (subst (λ (n : ℕ). Appends start first (decimal n ++ 32 ∷ [])) c.from.ensures c.in_ok-write_field.ensures)
    (appends_more first second end (field_text c.args.period 32) (load ++ limit)
    (subst (λ (n : ℕ). Appends first second (decimal n ++ 32 ∷ [])) c.from-2.ensures c.in_ok-write_field-2.ensures)
    (appends_more second third end load limit
    (subst (λ (z : ℤ). Appends second third (micro_text z 32)) (to_z-of_z w128 c.args.load c.ranges.load) c.in_ok-write_amount.ensures)
    (subst (λ (z : ℤ). Appends third end (fixed_text 6 z)) (to_z-of_z w128 c.args.limit c.ranges.limit) after))))
    c.write_micro.ensures.ok
