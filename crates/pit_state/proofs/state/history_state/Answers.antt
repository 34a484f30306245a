use Rattle.std.proofs.Common.{sym, subst}
use Rattle.std.proofs.lemmas.Result.{MatchResult-weaker}
use Rattle.pit_lines.specs.Lines.{StandsForHistory}
use Rattle.pit_state.proofs.States.{history-read, history-unfit, history-bad}
use Rattle.pit_state.proofs.state.history_state.Goals as goal

pub returns-in-Ok : goal.returns-in-Ok
returns-in-Ok g c =
    let text = c.args.text.items in
    let entries = c.deref.result.now in
    let stands = subst (StandsForHistory text) (sym c.deref.ensures.value) c.in-Ok.ensures.result in
    MatchResult-weaker c.history_plan.result c.history_plan.ensures (λ plan is. history-read c.args.pit text entries plan c.requires.kind stands is)
    (λ fault is. history-unfit c.args.file c.args.pit text entries fault c.requires.kind stands is)

pub returns-in-Err : goal.returns-in-Err
returns-in-Err g c = history-bad c.args.file c.args.pit c.args.text.items c.in-Err.fault c.requires.kind c.in-Err.ensures.result
