use Rattle.std.proofs.Common.{rules}
use denote.Param.Send.{sendable}
use Rattle.pit_live.proofs.threads.sit_scoped.Goals as goal

pub scoped-requires : goal.scoped-requires
scoped-requires g c =
    let b = c.type_bounds in
    record {
      at = λ a. (
        c.requires,
        (search (rules, sendable), search (rules, sendable), b.send-A, search (rules, sendable), search (rules, sendable), search (rules, sendable), b.sync-A, search (rules, sendable), b.frees-A-Allocator),
      );
    }
