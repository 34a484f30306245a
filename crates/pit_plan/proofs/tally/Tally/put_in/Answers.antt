use Rattle.std.proofs.Common.{◌≡◌, ◌+ℤ◌, true, refl, None, sym, ◌∙◌, subst, rules}
use Rattle.std.specs.Int.{w128}
use Rattle.std.proofs.lemmas.Int.{to_z-of_z}
use Rattle.pit_plan.specs.Schedule.{by_block, earned_in}
use Rattle.pit_plan.specs.Inside.Totals.{Tallied, IsTally, cell_load}
use Rattle.pit_plan.specs.Limits.{at_cell}
use Rattle.pit_plan.proofs.Moved.{put, room-for, sum-in, tally-set}
use Rattle.pit_plan.proofs.tally.Tally.put_in.Goals as goal

pub shift_kept-requires-clause-room : goal.shift_kept-requires-clause-room
shift_kept-requires-clause-room g c =
    let pit = c.args.pit.now in
    let tally = subst (IsTally pit) (sym c.self.view_is) c.requires.tally in
    let none = subst (λ (s : Tallied). by_block s.periods c.args.b ≡ None) (sym c.self.view_is) c.requires.none in
    room-for pit (by_block c.self.inside.periods.items) c.args.b c.args.period true (at_cell pit (cell_load c.self.inside.loads.items)) c.shows_sound.ensures c.requires.known none
    tally.totals.each c.requires.in_range

pub plus-self-inside-requires : goal.plus-self-inside-requires
plus-self-inside-requires g c =
    let pit = c.args.pit.now in
    let tally = subst (IsTally pit) (sym c.self.view_is) c.requires.tally in
    let none = subst (λ (s : Tallied). by_block s.periods c.args.b ≡ None) (sym c.self.view_is) c.requires.none in
    rw (to_z-of_z w128 c.self.inside.worth (search rules), to_z-of_z w128 c.earned.result (search rules), c.earned.ensures)
    (sum-in pit (by_block c.self.inside.periods.items) c.args.b c.args.period c.self.inside.worth c.shows_sound.ensures c.requires.known none tally.totals.value)

pub returns-clause-tally : goal.returns-clause-tally
returns-clause-tally g c =
    let pit = c.args.pit.now in
    let tally = subst (IsTally pit) (sym c.self.view_is) c.requires.tally in
    let none = subst (λ (s : Tallied). by_block s.periods c.args.b ≡ None) (sym c.self.view_is) c.requires.none in
    let more : c.plus-self-inside.result ≡ c.self.inside.worth +ℤ earned_in pit c.args.b c.args.period =
    c.plus-self-inside.ensures ∙ rw (to_z-of_z w128 c.self.inside.worth (search rules), to_z-of_z w128 c.earned.result (search rules), c.earned.ensures) refl in
    rw (to_z-of_z w128 c.plus-self-inside.result (search rules))
    (tally-set pit _ c.args.b c.args.period c.shift_kept.new.loads.items c.plus-self-inside.result tally c.requires.known c.requires.in_range c.shift_kept.ensures.len
    (put pit (by_block c.self.inside.periods.items) c.args.b c.args.period c.self.inside.loads.items c.shift_kept.new.loads.items c.self.inside.worth c.plus-self-inside.result c.requires.known none tally.totals c.shift_kept.ensures.moves more))
