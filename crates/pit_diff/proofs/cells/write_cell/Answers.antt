use Rattle.std.proofs.Common.{rules, ℤ, Option, ap, sym, subst, ◌∙◌, arith}
use Rattle.std.specs.Int.{w128}
use Rattle.std.specs.Io.KnownBytes.{Appends}
use Rattle.std.proofs.lemmas.Int.{to_z-of_z}
use Rattle.pit_num.proofs.CallerLemmas.{map_ok}
use Rattle.pit_model.specs.Pit.{Pit}
use Rattle.pit_plan.specs.Schedule.{held_period, limit_of, load_of}
use Rattle.pit_diff.specs.DiffText.{limit_change, load_change}
use Rattle.pit_diff.specs.Inside.Cells.{cell_change}
use Rattle.pit_diff.specs.declared.cells.Quantity.{Quantity}
use Rattle.pit_diff.proofs.Lines.{both_same}
use Rattle.pit_diff.proofs.cells.write_cell.Goals as goal

pub returns-in-Limit : goal.returns-in-Limit
returns-in-Limit g c =
    let resources = ap (λ (p : Pit). p.resources) c.requires.same in
    let periods = ap (λ (p : Pit). p.periods) c.requires.same in
    map_ok c.write_limit_change.result
    (λ written before after stands also.
    let old = c.limit.ensures ∙ stands.limit c.args.r c.args.t c.requires.resource c.requires.period in
    let new = c.limit-in-Limit.ensures ∙ also.limit c.args.r c.args.t (omega (arith, c.requires.resource, resources)) (omega (arith, c.requires.period, periods)) ∙ ap (λ (p : Pit). limit_of p after c.args.r c.args.t) c.requires.same in
    subst (λ (q : Quantity). Appends (g.W.Sink.contents c.args.w.now) (g.W.Sink.contents c.write_limit_change.new.w) (cell_change q c.args.old.now.pit before after c.args.r c.args.t)) (sym c.in-Limit.is)
    (both_same (λ (x y : Option ℤ). Appends (g.W.Sink.contents c.args.w.now) (g.W.Sink.contents c.write_limit_change.new.w) (limit_change c.args.r c.args.t x y)) old new written))
    c.write_limit_change.ensures

pub returns-in-Load : goal.returns-in-Load
returns-in-Load g c =
    map_ok c.write_load_change.result
    (λ written before after stands also.
    let old = to_z-of_z w128 c.load.result (search rules) ∙ c.load.ensures before stands in
    let new = to_z-of_z w128 c.load-in-Load.result (search rules) ∙ (c.load-in-Load.ensures after also ∙ ap (λ (p : Pit). load_of p (held_period after) c.args.r c.args.t) c.requires.same) in
    subst (λ (q : Quantity). Appends (g.W.Sink.contents c.args.w.now) (g.W.Sink.contents c.write_load_change.new.w) (cell_change q c.args.old.now.pit before after c.args.r c.args.t)) (sym c.in-Load.is)
    (both_same (λ (x y : ℤ). Appends (g.W.Sink.contents c.args.w.now) (g.W.Sink.contents c.write_load_change.new.w) (load_change c.args.r c.args.t x y)) old new written))
    c.write_load_change.ensures
