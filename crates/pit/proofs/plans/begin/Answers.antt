use Rattle.std.proofs.Common.{inl, inr, refl}
use Rattle.std.proofs.lemmas.Result.{MatchResult-weaker}
use Rattle.pit.specs.Histories.{history_refusal}
use Rattle.pit.proofs.History.{ready_history}
use Rattle.pit.proofs.plans.begin.Goals as goal

pub returns-in-Err : goal.returns-in-Err
returns-in-Err g c = inl (c.in-Err.ensures, (tt, (refl, refl)))

pub returns-in-Err-prepared : goal.returns-in-Err-prepared
returns-in-Err-prepared g c = inr (c.in-Ok.input, c.in-Ok.ensures, inl (c.in-Err-prepared.ensures.fault, (refl, refl)))

pub returns : goal.returns
returns g c =
    let ready = ready_history (history_refusal (g.D.Disk.told c.args.disk.now) c.args.words.now.origin) c.args.words.now.origin g.D.History.HistoryOut.state c.in-Ok-prepared.history c.plan-answer.new.history
    c.plan-answer.ensures.same c.in-Ok-prepared.ensures.named c.in-Ok-prepared.ensures.ready c.in-Ok-prepared.ensures.new in
    MatchResult-weaker c.plan-answer.result c.plan-answer.ensures.done
    (λ status gives. (c.in-Ok.input, c.in-Ok.ensures, ((c.in-Ok.input, _), (refl, ready), gives)))
    (λ fault fails. inr (c.in-Ok.input, c.in-Ok.ensures, inr ((c.in-Ok.input, _), (refl, ready), fails)))
