use Rattle.pit_step.proofs.CallerLemmas.{keeps_itself}
use Rattle.pit_live.proofs.Carrying.{unseated}
use Rattle.pit_live.proofs.engine.live_in.Goals as goal

pub returns-in-Err : goal.returns-in-Err
returns-in-Err g c = unseated _ c.args.file.now _ _ c.open_fault.ensures (keeps_itself (g.L.Sink.contents c.args.report.now))
