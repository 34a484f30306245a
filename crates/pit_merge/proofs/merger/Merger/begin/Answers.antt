use Rattle.std.proofs.Common.{◌≡◌, ap, subst, ◌∙◌}
use Rattle.std.proofs.lemmas.Result.{MatchResult-weaker}
use Rattle.pit_model.specs.Pit.{Pit}
use Rattle.pit_opening.specs.Openings.{IsDeskOn, is_resumed}
use Rattle.pit_merge.specs.Prepared.{Prepared}
use Rattle.pit_merge.proofs.Begun.{begun-opened, no-desk-opened}
use Rattle.pit_merge.proofs.merger.Merger.begin.Goals as goal

pub returns-in-Ok : goal.returns-in-Ok
returns-in-Ok g c =
    let begun : Prepared = c.args.input in
    let inside : IsDeskOn c.input.inside.pit c.input.inside.opening c.in-Ok.desk = subst (λ (pit : Pit). IsDeskOn pit c.input.inside.opening c.in-Ok.desk) c.keyed.ensures c.in-Ok.ensures in
    let opened : IsDeskOn begun.pit begun.opening c.in-Ok.desk = subst (λ (b : Prepared). IsDeskOn b.pit b.opening c.in-Ok.desk) c.input.view_is inside in
    let resumed : c.is_resumed-is_resumed.result ≡ is_resumed begun.opening = c.is_resumed-is_resumed.ensures ∙ ap (λ (b : Prepared). is_resumed b.opening) c.input.view_is in
    MatchResult-weaker c.begin_on.result c.begin_on.ensures (begun-opened begun c.in-Ok.desk c.is_resumed-is_resumed.result resumed opened) (no-desk-opened begun c.in-Ok.desk opened)
