use Rattle.std.proofs.Common.{◌≡◌, ℕ, ◌+◌, ◌<◌, to_z, of_z, List, [], ◌++◌, refl, ap, subst, ◌∙◌, arith, rules}
use Rattle.std.specs.Prelude.{flat_map}
use Rattle.std.specs.List.{range_with_len}
use Rattle.std.specs.Int.{w128}
use Rattle.std.specs.Io.KnownBytes.{Appends}
use Rattle.std.proofs.lemmas.Int.{ints, to_z-of_z}
use Rattle.pit_num.proofs.CallerLemmas.{appends_nothing, appends_more}
use Rattle.pit_model.specs.Pit.{Pit, IsSound}
use Rattle.pit_plan.specs.Sums.{total}
use Rattle.pit_plan.specs.Schedule.{held_period, limit_of}
use Rattle.pit_plan.specs.Standing.{period_of}
use Rattle.pit_plan.proofs.CallerLemmas.{flat_map-pushed}
use Rattle.pit_table.specs.Rows.{Row, row_of}
use Rattle.pit_table.specs.CsvText.{row_text, row_cells}
use Rattle.pit_table.specs.Inside.Mined.{mined_at}
use Rattle.pit_table.proofs.Totals.{total-more}
use Rattle.pit_table.proofs.Tabled.{mined-same, earned-fits, row-same}
use Rattle.pit_table.proofs.csv_text.write_rows.Goals as goal

pub loop-t-init : goal.loop-t-init
unfolding total
loop-t-init g c = (refl, λ commits stands. appends_nothing (g.W.Sink.contents c.args.w.now))

pub plus-cumulative-requires : goal.plus-cumulative-requires
plus-cumulative-requires g c =
    let pit = c.args.plan.now.pit in
    let mined = c.args.mined.now in
    let t = c.loop-t.t in
    let same = ap (λ (p : Pit). p.periods) c.deposit-2.ensures in
    let below : t < pit.periods = omega (arith, same, c.loop-t-test.true, c.periods-t-end.ensures) in
    rw (c.loop-t.invariant.0, to_z-of_z w128 (mined_at mined t).value (search rules))
    (earned-fits pit (period_of c.args.plan.now) mined c.requires.mined t (subst IsSound c.deposit.ensures c.shows_sound.ensures) below)

pub loop-t-preserved : goal.loop-t-preserved
loop-t-preserved g c =
    let pit = c.args.plan.now.pit in
    let mined = c.args.mined.now in
    let t = c.loop-t.t in
    let start = g.W.Sink.contents c.args.w.now in
    let before = g.W.Sink.contents c.loop-t.w in
    let end = g.W.Sink.contents c.write_row.new.w in
    let same = ap (λ (p : Pit). p.periods) c.deposit-2.ensures in
    let below : t < pit.periods = omega (arith, same, c.loop-t-test.true, c.periods-t-end.ensures) in
    let term : to_z w128 (of_z w128 (mined_at mined t).value) ≡ (mined_at mined t).value = to_z-of_z w128 (mined_at mined t).value (search rules) in
    let more = total-more (λ u. (mined_at mined u).value) t in
    let sum : to_z w128 (of_z w128 c.plus-cumulative.result) ≡ total (λ u. (mined_at mined u).value) (t + 1) =
    to_z-of_z w128 c.plus-cumulative.result (search rules) ∙ omega (arith, ints, c.plus-cumulative.ensures, c.loop-t.invariant.0, term, more) in (
      sum,
      λ commits stands.
          let schedule = held_period commits in
          let limit = limit_of pit commits in
          let line = λ (u : ℕ). row_text (row_cells (row_of pit schedule limit u)) in
          let are = mined-same pit (period_of c.args.plan.now) schedule pit.blocks mined stands.period c.requires.mined in
          let row = row-same pit schedule mined are limit t (mined_at mined t) (to_z w128 (of_z w128 c.plus-cumulative.result)) below refl sum in
          subst (λ (xs : List ℕ). Appends start end xs) (flat_map-pushed line [] (flat_map line (range_with_len 0 t)) (flat_map line (range_with_len 0 t) ++ line t) t refl refl)
          (appends_more start before end (flat_map line (range_with_len 0 t)) (line t) (c.loop-t.invariant.1 commits stands)
          (subst (λ (one : Row). Appends before end (row_text (row_cells one))) row (c.in_ok-write_row.ensures commits stands))),
    )

pub returns : goal.returns
returns g c = λ commits stands.
    let pit = c.args.plan.now.pit in
    let same = ap (λ (p : Pit). p.periods) c.deposit-2.ensures in
    subst
    (λ (n : ℕ). Appends (g.W.Sink.contents c.args.w.now) (g.W.Sink.contents c.loop-t.w) (flat_map (λ t. row_text (row_cells (row_of pit (held_period commits) (limit_of pit commits) t))) (range_with_len 0 n)))
    (omega (arith, same, c.loop-t-test.false, c.loop-t.auto.t-end, c.periods-t-end.ensures)) (c.loop-t.invariant.1 commits stands)
