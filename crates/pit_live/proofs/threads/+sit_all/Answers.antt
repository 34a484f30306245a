use Rattle.std.proofs.Common.{rules, ◌≡◌, ◌+◌, length, arith}
use Rattle.pit_live.proofs.Threading.{sat-next}
use Rattle.pit_live.proofs.threads.+sit_all.Goals as goal

pub returns-clause-sat : goal.returns-clause-sat
returns-clause-sat g t c =
    let at : c.len.result ≡ length c.pop.new.self.items = search rules in
    sat-next g.S.Session.instance g.S.Session.max_entries g.S.Session.opening (c.len.result + 1) c.sit_all.new.logs.items c.push_log.new.logs.items
    c.sit_all.new.sittings.items c.push_sitting.new.sittings.items c.joined-log.result.0 c.joined-log.result.1 c.sit_all.ensures.sat
    (omega (arith, at, c.sit_all.ensures.len.0)) c.joined-log.ensures c.push_log.ensures.items c.push_sitting.ensures.items
