use Rattle.std.proofs.Common.{inl, inr, refl}
use Rattle.std.proofs.lemmas.Result.{MatchResult-weaker}
use Rattle.pit.specs.Histories.{history_refusal}
use Rattle.pit.proofs.History.{ready_history}
use Rattle.pit.proofs.merges.carry_on.Goals as goal

pub returns-in-Err : goal.returns-in-Err
returns-in-Err g c = inl (c.in-Err.ensures.fault, (refl, refl))

pub returns : goal.returns
returns g c =
    let ready = ready_history (history_refusal (g.D.Disk.told c.args.disk.now) c.args.words.now.origin) c.args.words.now.origin g.D.History.HistoryOut.state c.in-Ok.history c.merge_held-answer.new.history
    c.merge_held-answer.ensures.same c.in-Ok.ensures.named c.in-Ok.ensures.ready c.in-Ok.ensures.new in
    MatchResult-weaker c.merge_held-answer.result c.merge_held-answer.ensures.done
    (λ status gives. (_, ready, gives))
    (λ fault fails. inr (_, ready, fails))
