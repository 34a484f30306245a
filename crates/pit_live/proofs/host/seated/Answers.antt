use Rattle.std.proofs.Common.{List, length, ap}
use Rattle.pit_desk.specs.History.{Answered}
use Rattle.pit_live.proofs.Served.{seated_sat}
use Rattle.pit_live.proofs.host.seated.Goals as goal

pub returns : goal.returns
returns g c = λ seat is.
    seated_sat g.S.Session.instance g.S.Session.max_entries g.S.Session.opening seat c.args.planner c.sit-sat.result.log _ _ _ c.sit-sat.result.ended
    c.number-number.result c.sit-sat.result.replies (length c.items.result.now) is c.number-number.ensures.number
    (ap (λ (es : List Answered). length es) c.items.ensures) c.sit-sat.ensures
