use Rattle.std.proofs.Common.{ℕ, List, ap, sym, subst, arith}
use Rattle.std.specs.Prelude.{flat_map}
use Rattle.std.specs.List.{range_with_len}
use Rattle.std.specs.Io.KnownBytes.{Appends}
use Rattle.pit_num.proofs.CallerLemmas.{appends_nothing, appends_more}
use Rattle.pit_model.specs.Pit.{Pit}
use Rattle.pit_plan.specs.Schedule.{held_period, limit_of}
use Rattle.pit_table.specs.Rows.{loading_of}
use Rattle.pit_table.specs.CsvText.{behind_commas, loading_cells}
use Rattle.pit_table.proofs.Pieces.{commas-none, commas-more}
use Rattle.pit_table.proofs.csv_text.write_loadings.Goals as goal

pub loop-r-init : goal.loop-r-init
loop-r-init g c = λ commits stands.
    subst (λ (xs : List ℕ). Appends (g.W.Sink.contents c.args.w.now) (g.W.Sink.contents c.args.w.now) xs) (sym commas-none) (appends_nothing (g.W.Sink.contents c.args.w.now))

pub loop-r-preserved : goal.loop-r-preserved
loop-r-preserved g c = λ commits stands.
    subst (λ (xs : List ℕ). Appends (g.W.Sink.contents c.args.w.now) (g.W.Sink.contents c.write_loading_of.new.w) xs)
    (sym (commas-more (λ r. loading_cells (loading_of c.args.plan.now.pit (held_period commits) (limit_of c.args.plan.now.pit commits) c.args.t r)) c.loop-r.r))
    (appends_more _ _ _ _ _ (c.loop-r.invariant commits stands) (c.in_ok-write_loading_of.ensures commits stands))

pub returns : goal.returns
returns g c = λ commits stands.
    let same = ap (λ (p : Pit). p.resources) c.deposit.ensures in
    subst
    (λ (n : ℕ). Appends (g.W.Sink.contents c.args.w.now) (g.W.Sink.contents c.loop-r.w) (behind_commas (flat_map (λ r. loading_cells (loading_of c.args.plan.now.pit (held_period commits) (limit_of c.args.plan.now.pit commits) c.args.t r)) (range_with_len 0 n))))
    (omega (arith, same, c.loop-r-test.false, c.loop-r.auto.r-end, c.resources-r-end.ensures)) (c.loop-r.invariant commits stands)
