use Rattle.std.proofs.Common.{sym, subst, IfSome}
use Rattle.pit_file.specs.Kept.{latest}
use Rattle.pit_journal.specs.Journals.{Tells}
use Rattle.pit_live.specs.LiveFiles.{FileKnown}
use Rattle.pit_live.proofs.Finishing.{has_lived}
use Rattle.pit_live.proofs.sessions.finished.Goals as goal

pub returns-in-Ok-clause-ok : goal.returns-in-Ok-clause-ok
returns-in-Ok-clause-ok g c = λ notices.
    let told = subst (λ (f : FileKnown). IfSome c.args.sat.known (λ k. Tells (latest f.stood) k × Tells f.synced k)) (sym c.let_go-is_let_go.ensures) c.requires.filed in
    has_lived g.S.Session.instance g.S.Session.opening g.S.Session.max_entries g.S.Session.planners c.requires.most c.args.sat.logs.items c.args.sat.sittings.items c.requires.sat notices
    c.let_go-is_let_go.new.self c.in-Ok.closed c.args.sat.known c.in-Ok.is_all c.is_filed.result c.requires.many c.in-Ok.ensures.ok c.in-Ok.ensures.all c.is_filed.ensures told
