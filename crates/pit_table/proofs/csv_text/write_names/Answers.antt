use Rattle.std.proofs.Common.{ℕ, List, [], ◌∷◌, ◌++◌, codes, subst}
use Rattle.std.specs.Prelude.{flat_map}
use Rattle.std.specs.List.{range_with_len}
use Rattle.std.specs.Io.KnownBytes.{Appends}
use Rattle.pit_num.proofs.CallerLemmas.{appends_more, map_ok}
use Rattle.pit_table.specs.CsvText.{behind_commas, names_of}
use Rattle.pit_table.proofs.Pieces.{names-pieces}
use Rattle.pit_table.proofs.csv_text.write_names.Goals as goal

pub returns : goal.returns
returns g c =
    let start = g.W.Sink.contents c.args.w.now in
    let first = g.W.Sink.contents c.write_text.new.w in
    let second = g.W.Sink.contents c.write_names_up_to.new.w in
    let end = g.W.Sink.contents c.write_text-2.new.w in
    let names = flat_map names_of (range_with_len 0 c.args.resources) in
    map_ok c.write_text-2.result
    (λ after.
    subst (λ (xs : List ℕ). Appends start end xs) (names-pieces names)
    (appends_more start first end (codes "period,blocks,value,cumulative") (behind_commas names ++ 10 ∷ []) c.in_ok-write_text.ensures.ok
    (appends_more first second end (behind_commas names) (10 ∷ []) c.in_ok-write_names_up_to.ensures after)))
    c.write_text-2.ensures.ok
