use Rattle.std.proofs.Common.{rules}
use denote.Param.Send.{sendable}
use Rattle.pit_live.proofs.threads.fn.sit_scoped.scope+FnOnce.call_once.Goals as goal

pub scope-requires : goal.scope-requires
scope-requires g c =
    (search (rules, sendable), (search (rules, sendable), (search (rules, sendable), (search (rules, sendable), (search (rules, sendable), (search (rules, sendable), (search (rules, sendable), (search (rules, sendable), search (rules, sendable)))))))))
