use Rattle.std.proofs.Common.{inl, ap}
use Rattle.pit_live.proofs.Finishing.{told_end}
use Rattle.pit_live.proofs.sessions.live_kept.Goals as goal

pub returns-in-Err : goal.returns-in-Err
returns-in-Err g c = inl (record { why = c.in-Err.ensures.err c.args.notices.now; is_told = c.tell-is_told.result; told = c.tell-is_told.ensures })

pub returns : goal.returns
returns g c =
    told_end _ _ _ c.tell-is_told.result _ _ _ _ _ _ c.told-answer.result (c.in-Ok.ensures.ok c.args.notices.now) c.tell-is_told.ensures
    (λ same. (ap g.L.Sink.contents same, ap g.L.Sink.has_failed same)) c.told-answer.ensures.untold c.told-answer.ensures.ok c.told-answer.ensures.err
