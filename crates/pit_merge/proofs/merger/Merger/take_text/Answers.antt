use Rattle.std.proofs.lemmas.Result.{MatchResult-weaker}
use Rattle.pit_merge.specs.Edits.{ground_of}
use Rattle.pit_merge.proofs.Wanted.{wants}
use Rattle.pit_merge.proofs.merger.Merger.take_text.Goals as goal

pub returns-in-Ok : goal.returns-in-Ok
returns-in-Ok g c =
    let edit = c.in-Ok.edit in
    MatchResult-weaker c.merge.result c.merge.ensures
    (λ new on. record { edit = _; is_edit = c.in-Ok.ensures.edit; same_ours = on.ours; same_resumed = on.resumed_is; merged = on.merged })
    (λ fault none. wants (ground_of c.args.self) c.args.options.from c.args.number c.args.text.items _ _ fault c.in-Ok.ensures.edit.wanted none)
