use Rattle.std.proofs.Common.{FitsSigned, ap, subst, ◌∙◌, rules}
use Rattle.std.specs.Prelude.{IfSome}
use Rattle.std.specs.Int.{w64, w128}
use Rattle.std.specs.Io.KnownBytes.{Appends}
use Rattle.std.proofs.lemmas.Int.{to_z-of_z}
use Rattle.pit_num.proofs.CallerLemmas.{map_ok}
use Rattle.pit_model.specs.Pit.{Pit, IsSound, lower_of}
use Rattle.pit_plan.specs.Schedule.{held_period, limit_of}
use Rattle.pit_table.specs.Rows.{Loading}
use Rattle.pit_table.specs.CsvText.{behind_commas, loading_cells}
use Rattle.pit_table.proofs.Tabled.{loading-same, room-fits}
use Rattle.pit_table.proofs.csv_text.write_loading_of.Goals as goal

pub write_loading-requires : goal.write_loading-requires
write_loading-requires g c =
    let small : IfSome c.limit-upper.result (λ z. FitsSigned w64 z) = search rules in
    rw (to_z-of_z w128 c.load.result (search rules))
    (room-fits c.args.plan.now.pit (held_period c.requires.left.commits) c.args.r c.args.t c.load.result c.limit-upper.result (subst IsSound c.deposit.ensures c.shows_sound.ensures)
    (c.load.ensures c.requires.left.commits c.requires.left.leaves) small)

pub returns : goal.returns
returns g c =
    let pit = c.args.plan.now.pit in
    let r = c.args.r in
    let t = c.args.t in
    let start = g.W.Sink.contents c.args.w.now in
    let end = g.W.Sink.contents c.write_loading.new.w in
    map_ok c.write_loading.result
    (λ after commits stands.
    subst (λ (loading : Loading). Appends start end (behind_commas (loading_cells loading)))
    (loading-same pit (held_period commits) (limit_of pit commits) t r _ c.lower-lower.result c.limit-upper.result (to_z-of_z w128 c.load.result (search rules) ∙ c.load.ensures commits stands)
    (c.lower-lower.ensures ∙ ap (λ (p : Pit). lower_of p r t) c.deposit-2.ensures) (c.limit-upper.ensures ∙ stands.limit r t c.requires.resource c.requires.period))
    after)
    c.write_loading.ensures
