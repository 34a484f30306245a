use Rattle.std.proofs.Common.{ap, ◌∙◌}
use Rattle.std.specs.Prelude.{Err}
use Rattle.pit_share.specs.declared.error.ReadStop.{ReadStop}
use Rattle.pit_job.proofs.Stepping.{looks-up}
use Rattle.pit_share.specs.declared.error.ReadStop.TheVariants as stop
use Rattle.pit_job.proofs.Meeting.{look-stops}
use Rattle.pit_job.proofs.doing.look.Goals as goal

pub returns-in-Ok-clause-ok : goal.returns-in-Ok-clause-ok
returns-in-Ok-clause-ok g c =
    looks-up g.S.Session.instance c.args.t.now c.read.new.self c.args.b c.read.result c.in-Ok.period c.requires c.in-Ok.is c.read.ensures.sees c.read.ensures.known c.read.ensures.unknown

pub returns-in-Err-Moved-clause-err : goal.returns-in-Err-Moved-clause-err
returns-in-Err-Moved-clause-err g c =
    look-stops g.S.Session.instance c.args.t.now c.read.new.self c.args.b c.read.result (stop.Moved c.in-Err-Moved.block c.in-Err-Moved.version) c.requires
    (c.in-Err-Moved.is ∙ ap (λ (s : ReadStop). Err s) c.in-Err-Moved.field-0-is) c.read.ensures.sees c.read.ensures.known c.read.ensures.unknown
