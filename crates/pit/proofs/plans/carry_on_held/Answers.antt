use Rattle.std.proofs.Common.{inl, inr, refl}
use Rattle.std.proofs.lemmas.Result.{MatchResult-weaker}
use Rattle.pit.proofs.plans.carry_on_held.Goals as goal

pub returns-in-Err-clause-done : goal.returns-in-Err-clause-done
returns-in-Err-clause-done g c = inr (c.is_history_there-is_there.result, c.is_history_there-is_there.ensures, inl (c.in-Err.ensures, (refl, refl)))

pub returns-clause-done : goal.returns-clause-done
returns-clause-done g c =
    MatchResult-weaker c.plan.result c.plan.ensures.done
    (λ status gives. (c.is_history_there-is_there.result, c.is_history_there-is_there.ensures, (c.in-Ok.input, c.in-Ok.ensures, gives)))
    (λ fault fails. inr (c.is_history_there-is_there.result, c.is_history_there-is_there.ensures, inr (c.in-Ok.input, c.in-Ok.ensures, fails)))
