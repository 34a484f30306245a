use Rattle.std.proofs.Common.{ℕ, List, Option, Some, ap, ◌∙◌}
use Rattle.std.specs.Prelude.{nat_eq, is_some}
use Rattle.pit_keyed.proofs.CallerLemmas.{insert_entry-absent}
use Rattle.pit_tx.specs.Sets.{Sets}
use Rattle.pit_edit.proofs.work.put.Goals as goal

pub returns : goal.returns
returns g c =
    let old : Sets = c.args.work.now in
    let last = insert_entry-absent nat_eq old.writes c.args.b (Some c.args.t) (ap (λ (w : Option (Option ℕ)). is_some w) c.requires.unwritten) in
    c.in-Ok.ensures.ok ∙ ap (λ (writes : List (ℕ × Option ℕ)). record old { writes = writes }) last
