use Rattle.std.proofs.Common.{◌≡◌, ◌++◌, ◌∷◌, [], None, get_or, subst, sym, ap, ◌∙◌}
use Rattle.std.specs.Prelude.{nat_eq}
use Rattle.std.specs.Map.{lookup}
use Rattle.std.proofs.lemmas.List.{take_more}
use Rattle.indexmap.proofs.CallerLemmas.{insert_entry-new}
use Rattle.pit_plan.specs.Schedule.{Writes}
use Rattle.pit_plan.proofs.Named.{absent-before}
use Rattle.pit_plan.proofs.overlay.written.Goals as goal

pub loop-block-preserved : goal.loop-block-preserved
loop-block-preserved g c =
    let writes = c.args.writes.now in
    let k = c.loop-block.block-index in
    let w = get_or writes k (0, None) in
    let none = subst (λ (ps : Writes). lookup (nat_eq w.0) ps ≡ None) (sym c.loop-block.invariant) (absent-before writes k (0, None) c.requires c.loop-block-test.true) in
    c.in_ok-insert.ensures.entries
    ∙ (insert_entry-new nat_eq c.loop-block.map w.0 w.1 none
    ∙ (ap (λ (ps : Writes). ps ++ w ∷ []) c.loop-block.invariant ∙ sym (take_more writes k (0, None) c.loop-block-test.true)))
