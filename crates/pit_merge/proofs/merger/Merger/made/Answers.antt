use Rattle.std.proofs.Common.{◌≤◌, List, length, take, sym, ap, subst, ◌∙◌, refl, arith}
use Rattle.pit_desk.specs.History.{Answered, commits_of}
use Rattle.pit_state.specs.States.{EachFits}
use Rattle.pit_base.specs.Held.{AreLeft, AreInRange}
use Rattle.pit_edit.specs.Changes.{Edit}
use Rattle.pit_merge.specs.Edits.{Ground, IsWanted, ground_of}
use Rattle.pit_merge.proofs.Wanted.{wanted-there, wants}
use Rattle.pit_merge.proofs.Taken.{front-few, front-fits, on-history}
use Rattle.pit_merge.proofs.merger.Merger.made.Goals as goal

pub wanted_of-requires-clause-few : goal.wanted_of-requires-clause-few
wanted_of-requires-clause-few g c =
    let on = c.ground-ground.ensures in
    let history = c.args.self.now.merging.desk.history in
    omega (arith, ap (λ (x : Ground). length x.ours) on.ground, ap (λ (h : List Answered). length h) on.front.1, front-few on.front.0 history, on.kept.few, on.kept.limit)

pub base_periods-requires-clause-fits : goal.base_periods-requires-clause-fits
base_periods-requires-clause-fits g c =
    let on = c.ground-ground.ensures in
    let desk = c.args.self.now.merging.desk in
    subst (λ (x : Ground). EachFits x.pit x.ours) (sym (c.ground.view_is ∙ on.ground))
    (subst (λ (h : List Answered). EachFits desk.plan.pit h) (sym on.front.1) (front-fits on.front.0 desk.history desk.plan on.kept.follows))

pub base_periods-requires-clause-there : goal.base_periods-requires-clause-there
base_periods-requires-clause-there g c =
    subst (λ (x : Ground). c.in-Ok.found.0 ≤ length (commits_of x.ours)) (sym c.ground.view_is)
    (wanted-there c.ground-ground.result c.args.from c.args.text.items c.in-Ok.found.0 c.in-Ok.found.1.items c.in-Ok.ensures.wanted)

pub returns-in_default-clause-edit : goal.returns-in_default-clause-edit
returns-in_default-clause-edit g c =
    wants (ground_of c.args.self.now) c.args.from c.args.number c.args.text.items c.in-Ok.found.0 c.in-Ok.found.1.items _
    (subst (λ (x : Ground). IsWanted x c.args.from c.args.text.items c.in-Ok.found.0 c.in-Ok.found.1.items) c.ground-ground.ensures.ground c.in-Ok.ensures.wanted) refl

pub returns-clause-on : goal.returns-clause-on
returns-clause-on g c =
    let on = c.ground-ground.ensures in
    let desk = c.args.self.now.merging.desk in
    let start = c.in-Ok.found.0 in
    let wanted = c.in-Ok.found.1.items in
    let base = c.in-Ok-base_periods.base.items in
    let edit : Edit = record { number = c.args.number; start = start; base = base; wanted = wanted } in
    let is = subst (λ (x : Ground). IsWanted x c.args.from c.args.text.items start wanted) on.ground c.in-Ok.ensures.wanted in
    on-history desk.plan.pit desk.history on.front.0 edit is.commits
    (subst (λ (h : List Answered). start ≤ length (commits_of h)) on.front.1 (wanted-there (ground_of c.args.self.now) c.args.from c.args.text.items start wanted is))
    is.left
    (subst (λ (x : Ground). AreInRange x.pit wanted) on.ground c.in-Ok.ensures.range)
    (subst (λ (h : List Answered). AreLeft desk.plan.pit.blocks (take start (commits_of h)) base) on.front.1
    (subst (λ (x : Ground). AreLeft x.pit.blocks (take start (commits_of x.ours)) base) (c.ground.view_is ∙ on.ground) c.in-Ok-base_periods.ensures))
