use Rattle.std.proofs.Common.{ℕ, List, sym, subst, arith}
use Rattle.std.specs.Prelude.{flat_map}
use Rattle.std.specs.List.{range_with_len}
use Rattle.std.specs.Io.KnownBytes.{Appends}
use Rattle.pit_num.proofs.CallerLemmas.{appends_nothing, appends_more}
use Rattle.pit_table.specs.CsvText.{behind_commas, names_of}
use Rattle.pit_table.proofs.Pieces.{commas-none, commas-more}
use Rattle.pit_table.proofs.csv_text.write_names_up_to.Goals as goal

pub loop-r-init : goal.loop-r-init
loop-r-init g c = subst (λ (xs : List ℕ). Appends (g.W.Sink.contents c.args.w.now) (g.W.Sink.contents c.args.w.now) xs) (sym commas-none) (appends_nothing (g.W.Sink.contents c.args.w.now))

pub loop-r-preserved : goal.loop-r-preserved
loop-r-preserved g c =
    subst (λ (xs : List ℕ). Appends (g.W.Sink.contents c.args.w.now) (g.W.Sink.contents c.write_names_of.new.w) xs) (sym (commas-more names_of c.loop-r.r))
    (appends_more _ _ _ _ _ c.loop-r.invariant c.in_ok-write_names_of.ensures)

pub returns : goal.returns
returns g c =
    subst (λ (n : ℕ). Appends (g.W.Sink.contents c.args.w.now) (g.W.Sink.contents c.loop-r.w) (behind_commas (flat_map names_of (range_with_len 0 n)))) (omega (arith, c.loop-r-test.false, c.loop-r.auto.r-end)) c.loop-r.invariant
