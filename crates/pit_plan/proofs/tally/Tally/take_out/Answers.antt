use Rattle.std.proofs.Common.{◌≡◌, ◌-ℤ◌, false, refl, None, sym, ◌∙◌, subst, rules, arith}
use Rattle.std.specs.Int.{w128}
use Rattle.std.proofs.lemmas.Int.{to_z-of_z}
use Rattle.std.proofs.lemmas.List.{get_or_default}
use Rattle.pit_plan.specs.Schedule.{by_block, earned_in}
use Rattle.pit_plan.specs.Inside.Totals.{IsTally, cell_load}
use Rattle.pit_plan.specs.Limits.{at_cell}
use Rattle.pit_plan.proofs.Moved.{taken, room-for, sum-out, period-in_range, tally-set}
use Rattle.pit_plan.proofs.tally.Tally.take_out.Goals as goal

pub shift_kept-requires-clause-period : goal.shift_kept-requires-clause-period
shift_kept-requires-clause-period g c =
    let pit = c.args.pit.now in
    let tally = subst (IsTally pit) (sym c.self.view_is) c.requires.tally in
    let is = get_or_default c.self.inside.periods.items c.args.b None c.index-old.result.now (omega (arith, c.requires.known, tally.each_period)) ∙ sym c.index-old.ensures in
    period-in_range pit _ c.args.b c.index-old.result.now tally c.requires.known is

pub shift_kept-requires-clause-room : goal.shift_kept-requires-clause-room
shift_kept-requires-clause-room g c =
    let pit = c.args.pit.now in
    let tally = subst (IsTally pit) (sym c.self.view_is) c.requires.tally in
    let is = get_or_default c.self.inside.periods.items c.args.b None c.index-old.result.now (omega (arith, c.requires.known, tally.each_period)) ∙ sym c.index-old.ensures in
    room-for pit (by_block c.self.inside.periods.items) c.args.b c.index-old.result.now false (at_cell pit (cell_load c.self.inside.loads.items)) c.shows_sound.ensures c.requires.known is
    tally.totals.each (period-in_range pit _ c.args.b c.index-old.result.now tally c.requires.known is)

pub earned-requires-clause-period : goal.earned-requires-clause-period
earned-requires-clause-period g c =
    let pit = c.args.pit.now in
    let tally = subst (IsTally pit) (sym c.self.view_is) c.requires.tally in
    let is = get_or_default c.self.inside.periods.items c.args.b None c.index-old.result.now (omega (arith, c.requires.known, tally.each_period)) ∙ sym c.index-old.ensures in
    period-in_range pit _ c.args.b c.index-old.result.now tally c.requires.known is

pub minus-self-inside-requires : goal.minus-self-inside-requires
minus-self-inside-requires g c =
    let pit = c.args.pit.now in
    let tally = subst (IsTally pit) (sym c.self.view_is) c.requires.tally in
    let is = get_or_default c.self.inside.periods.items c.args.b None c.index-old.result.now (omega (arith, c.requires.known, tally.each_period)) ∙ sym c.index-old.ensures in
    rw (to_z-of_z w128 c.self.inside.worth (search rules), to_z-of_z w128 c.earned.result (search rules), c.earned.ensures)
    (sum-out pit (by_block c.self.inside.periods.items) c.args.b c.index-old.result.now c.self.inside.worth c.shows_sound.ensures c.requires.known is tally.totals.value)

pub returns-clause-tally : goal.returns-clause-tally
returns-clause-tally g c =
    let pit = c.args.pit.now in
    let tally = subst (IsTally pit) (sym c.self.view_is) c.requires.tally in
    let is = get_or_default c.self.inside.periods.items c.args.b None c.index-old.result.now (omega (arith, c.requires.known, tally.each_period)) ∙ sym c.index-old.ensures in
    let less : c.minus-self-inside.result ≡ c.self.inside.worth -ℤ earned_in pit c.args.b c.index-old.result.now =
    c.minus-self-inside.ensures ∙ rw (to_z-of_z w128 c.self.inside.worth (search rules), to_z-of_z w128 c.earned.result (search rules), c.earned.ensures) refl in
    rw (to_z-of_z w128 c.minus-self-inside.result (search rules))
    (tally-set pit _ c.args.b None c.shift_kept.new.loads.items c.minus-self-inside.result tally c.requires.known tt c.shift_kept.ensures.len
    (taken pit (by_block c.self.inside.periods.items) c.args.b c.index-old.result.now c.self.inside.loads.items c.shift_kept.new.loads.items c.self.inside.worth c.minus-self-inside.result c.requires.known is tally.totals c.shift_kept.ensures.moves less))
