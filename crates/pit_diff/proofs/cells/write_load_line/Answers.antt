use Rattle.std.proofs.Common.{ℕ, ℤ, ◌++◌, ◌∷◌, [], codes, decimal, subst}
use Rattle.std.specs.Int.{w128}
use Rattle.std.specs.Io.KnownBytes.{Appends}
use Rattle.std.proofs.lemmas.Int.{to_z-of_z}
use Rattle.pit_num.proofs.CallerLemmas.{appends_more, map_ok}
use Rattle.pit_step.specs.LineTexts.{field_text, micro_text}
use Rattle.pit_diff.specs.DiffText.{load_line}
use Rattle.pit_diff.proofs.cells.write_load_line.Goals as goal

pub returns : goal.returns
unfolding load_line
returns g c =
    let start = g.W.Sink.contents c.args.w.now in
    let first = g.W.Sink.contents c.write_text.new.w in
    let second = g.W.Sink.contents c.write_field.new.w in
    let third = g.W.Sink.contents c.write_field-2.new.w in
    let fourth = g.W.Sink.contents c.write_amount.new.w in
    let end = g.W.Sink.contents c.write_amount-2.new.w in
    let old = micro_text c.args.old 32 in
    let new = micro_text c.args.new 10 in
    map_ok c.write_amount-2.result
    (λ after. appends_more start first end (codes "load ") (field_text c.args.r 32 ++ (field_text c.args.t 32 ++ (old ++ new))) c.in_ok-write_text.ensures.ok
    (appends_more first second end (field_text c.args.r 32) (field_text c.args.t 32 ++ (old ++ new)) (subst (λ (n : ℕ). Appends first second (decimal n ++ 32 ∷ [])) c.from.ensures c.in_ok-write_field.ensures)
    (appends_more second third end (field_text c.args.t 32) (old ++ new) (subst (λ (n : ℕ). Appends second third (decimal n ++ 32 ∷ [])) c.from-2.ensures c.in_ok-write_field-2.ensures)
    (appends_more third fourth end old new (subst (λ (z : ℤ). Appends third fourth (micro_text z 32)) (to_z-of_z w128 c.args.old c.ranges.old) c.in_ok-write_amount.ensures)
    (subst (λ (z : ℤ). Appends fourth end (micro_text z 10)) (to_z-of_z w128 c.args.new c.ranges.new) after)))))
    c.write_amount-2.ensures
