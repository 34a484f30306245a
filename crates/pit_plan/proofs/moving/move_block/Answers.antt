use Rattle.std.proofs.Common.{ℕ, ℤ, List, None, true, false, length, take, get_or, sym, ap, ◌∙◌}
use Rattle.pit_plan.specs.Schedule.{by_block}
use Rattle.pit_plan.specs.Inside.Totals.{cell_load, with_period}
use Rattle.pit_plan.specs.Limits.{at_cell}
use Rattle.pit_plan.specs.Inside.Touched.{overlaid_item}
use Rattle.pit_plan.proofs.Moved.{shifted, room-for, with_period-here, period-in_range}
use Rattle.pit_plan.proofs.Touched.{overlaid_item-next, loads-next}
use Rattle.pit_plan.proofs.moving.move_block.Goals as goal

-- the loads of a value
abbrev of-loads : List ℤ → List (ℕ × ℤ) → ℕ → ℤ
of-loads kept cells = overlaid_item (cell_load kept) cells

pub shift-requires-clause-period : goal.shift-requires-clause-period
shift-requires-clause-period g c =
    let w = get_or c.args.writes.now c.args.k (0, None) in
    let below = c.requires.fits.keys c.args.k (0, None) c.requires.within in
    period-in_range c.args.pit.now c.args.tally.now w.0 c.period.result c.requires.tally below (sym c.period.ensures)

pub shift-requires-clause-cells : goal.shift-requires-clause-cells
shift-requires-clause-cells g c = ap length c.requires.moved.same ∙ c.requires.tally.each_load

pub shift-requires-clause-room : goal.shift-requires-clause-room
shift-requires-clause-room g c =
    let pit = c.args.pit.now in
    let w = get_or c.args.writes.now c.args.k (0, None) in
    let s = overlaid_item (by_block c.args.tally.now.periods) (take c.args.k c.args.writes.now) in
    let below = c.requires.fits.keys c.args.k (0, None) c.requires.within in
    room-for pit s w.0 c.period.result false (at_cell pit (of-loads c.args.loads.now.kept.now c.args.loads.now.cells)) c.shows_sound.ensures below
    (overlaid_item-next c.args.tally.now.periods c.args.writes.now c.args.k c.requires.fits.once c.requires.within ∙ sym c.period.ensures) c.requires.moved.loads
    (period-in_range pit c.args.tally.now w.0 c.period.result c.requires.tally below (sym c.period.ensures))

pub shift-requires-2-clause-cells : goal.shift-requires-2-clause-cells
shift-requires-2-clause-cells g c = ap length (c.in_ok-shift.ensures.stays ∙ c.requires.moved.same) ∙ c.requires.tally.each_load

pub shift-requires-2-clause-room : goal.shift-requires-2-clause-room
shift-requires-2-clause-room g c =
    let pit = c.args.pit.now in
    let w = get_or c.args.writes.now c.args.k (0, None) in
    let s = overlaid_item (by_block c.args.tally.now.periods) (take c.args.k c.args.writes.now) in
    let below = c.requires.fits.keys c.args.k (0, None) c.requires.within in
    let old = at_cell pit (of-loads c.args.loads.now.kept.now c.args.loads.now.cells) in
    let new = at_cell pit (of-loads c.shift.new.loads.kept.now c.shift.new.loads.cells) in
    let out = shifted pit s w.0 c.period.result false old new below
    (overlaid_item-next c.args.tally.now.periods c.args.writes.now c.args.k c.requires.fits.once c.requires.within ∙ sym c.period.ensures) c.requires.moved.loads c.in_ok-shift.ensures.moves in
    room-for pit (with_period s w.0 None) w.0 w.1 true new c.shows_sound.ensures below (with_period-here s w.0 None) out (c.requires.fits.values c.args.k (0, None) c.requires.within)

pub returns : goal.returns
returns g c =
    let pit = c.args.pit.now in
    let w = get_or c.args.writes.now c.args.k (0, None) in
    let s = overlaid_item (by_block c.args.tally.now.periods) (take c.args.k c.args.writes.now) in
    let below = c.requires.fits.keys c.args.k (0, None) c.requires.within in
    let old = at_cell pit (of-loads c.args.loads.now.kept.now c.args.loads.now.cells) in
    let new = at_cell pit (of-loads c.shift.new.loads.kept.now c.shift.new.loads.cells) in
    let last = at_cell pit (of-loads c.shift-2.new.loads.kept.now c.shift-2.new.loads.cells) in
    let out = shifted pit s w.0 c.period.result false old new below
    (overlaid_item-next c.args.tally.now.periods c.args.writes.now c.args.k c.requires.fits.once c.requires.within ∙ sym c.period.ensures) c.requires.moved.loads c.in_ok-shift.ensures.moves in
    record {
      same = c.in_ok-shift-2.ensures.stays ∙ (c.in_ok-shift.ensures.stays ∙ c.requires.moved.same);
      loads = loads-next pit c.args.tally.now.periods c.args.writes.now c.args.k last c.requires.fits.once c.requires.within
          (shifted pit (with_period s w.0 None) w.0 w.1 true new last below (with_period-here s w.0 None) out c.in_ok-shift-2.ensures.moves);
      in_range = c.in_ok-shift-2.ensures.sound;
    }
