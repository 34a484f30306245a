use Rattle.std.proofs.Common.{rules, ◌≡◌, ℕ, ℤ, ◌++◌, ap, subst, ◌∙◌}
use Rattle.std.specs.Int.{w128}
use Rattle.std.specs.Io.KnownBytes.{Appends}
use Rattle.std.proofs.lemmas.Int.{to_z-of_z}
use Rattle.pit_num.proofs.CallerLemmas.{appends_more, map_ok}
use Rattle.pit_model.specs.Pit.{Pit}
use Rattle.pit_plan.specs.Schedule.{held_period, limit_of}
use Rattle.pit_plan.specs.Standing.{period_of}
use Rattle.pit_diff.specs.Changes.{changes_of, moves_by}
use Rattle.pit_diff.specs.DiffText.{changes_text, moves_text, limits_text, loads_text, value_change}
use Rattle.pit_diff.specs.Inside.Table.{table_number}
use Rattle.pit_diff.proofs.Congruence.{text-of-plans}
use Rattle.pit_diff.proofs.Lines.{both_same}
use Rattle.pit_diff.proofs.diff_text.write_diff.Goals as goal

pub returns : goal.returns
returns g c =
    let old = c.args.old.now in
    let new = c.args.new.now in
    let pit = old.pit in
    let counts = c.args.counts.now in
    let start = g.W.Sink.contents c.args.w.now in
    let first = g.W.Sink.contents c.write_changes.new.w in
    let second = g.W.Sink.contents c.write_moves.new.w in
    let third = g.W.Sink.contents c.write_cells.new.w in
    let fourth = g.W.Sink.contents c.write_cells-2.new.w in
    let end = g.W.Sink.contents c.write_value_change.new.w in
    let changes = changes_text (changes_of pit.blocks (period_of old) (period_of new)) in
    let moves = moves_text (moves_by pit.periods (table_number pit.periods counts)) in
    let value = value_change c.value.result c.value-2.result in
    let periods : c.periods.result ≡ pit.periods = c.periods.ensures ∙ ap (λ (p : Pit). p.periods) c.deposit-2.ensures in
    let after_moves : Appends first second moves = subst (λ (n : ℕ). Appends first second (moves_text (moves_by n (table_number n counts)))) periods c.in_ok-write_moves.ensures in
    let one = to_z-of_z w128 c.value.result (search rules) in
    let other = to_z-of_z w128 c.value-2.result (search rules) in
    map_ok c.write_value_change.result
    (λ written before after stands also.
    let limits = limits_text pit (limit_of pit before) (limit_of pit after) in
    let loads = loads_text pit (held_period before) (held_period after) in
    subst (Appends start end)
    (text-of-plans old new before after counts c.value.result c.value-2.result c.requires.same stands also c.requires.counts (c.value.ensures before stands) (c.value-2.ensures after also))
    (appends_more start first end changes (moves ++ (limits ++ (loads ++ value))) c.in_ok-write_changes.ensures
    (appends_more first second end moves (limits ++ (loads ++ value)) after_moves
    (appends_more second third end limits (loads ++ value) (c.in_ok-write_cells.ensures before after stands also)
    (appends_more third fourth end loads value (c.in_ok-write_cells-2.ensures before after stands also)
    (both_same (λ (x y : ℤ). Appends fourth end (value_change x y)) one other written))))))
    c.write_value_change.ensures
