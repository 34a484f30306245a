use Rattle.std.proofs.Common.{◌≡◌, ℕ, List, Option, Some, None, sym, subst, arith}
use Rattle.std.specs.Prelude.{flat_map}
use Rattle.std.specs.List.{range_with_len}
use Rattle.std.specs.Io.KnownBytes.{Appends}
use Rattle.pit_num.proofs.CallerLemmas.{appends_more, map_ok}
use Rattle.pit_diff.specs.Changes.{Move, move_of}
use Rattle.pit_diff.specs.DiffText.{moves_text}
use Rattle.pit_diff.specs.Inside.Table.{table_number}
use Rattle.pit_diff.proofs.Lines.{appends-pushed, moves-placed}
use Rattle.pit_diff.proofs.moves.write_moves_from.Goals as goal

pub loop-t-preserved : goal.loop-t-preserved
loop-t-preserved g c =
    appends-pushed (g.W.Sink.contents c.args.w.now) (g.W.Sink.contents c.loop-t.w) (g.W.Sink.contents c.write_count.new.w)
    (λ (t : ℕ). moves_text (move_of c.args.from (Some t) (table_number c.args.periods c.args.counts.now c.args.from (Some t)))) c.loop-t.t c.loop-t.invariant c.in_ok-write_count.ensures

pub returns : goal.returns
returns g c =
    let start = g.W.Sink.contents c.args.w.now in
    let between = g.W.Sink.contents c.loop-t.w in
    let end = g.W.Sink.contents c.write_count-2.new.w in
    let moves : Option ℕ → List Move = λ (to : Option ℕ). move_of c.args.from to (table_number c.args.periods c.args.counts.now c.args.from to) in
    let piece : ℕ → List ℕ = λ (t : ℕ). moves_text (moves (Some t)) in
    let all : c.loop-t.t ≡ c.args.periods = omega (arith, c.loop-t-test.false, c.loop-t.auto.t-end) in
    map_ok c.write_count-2.result
    (λ after. subst (Appends start end) (sym (moves-placed c.args.periods moves))
    (appends_more start between end (flat_map piece (range_with_len 0 c.args.periods)) (moves_text (moves None)) (subst (λ (n : ℕ). Appends start between (flat_map piece (range_with_len 0 n))) all c.loop-t.invariant) after))
    c.write_count-2.ensures
