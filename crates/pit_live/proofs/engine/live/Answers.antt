use Rattle.std.proofs.Common.{subst}
use Rattle.pit_model.specs.Pit.{Pit}
use Rattle.pit_step.specs.Steps.{IsResultOf}
use Rattle.pit_step.specs.Devices.{writing_of}
use Rattle.pit_opening.specs.Openings.{IsDeskOn}
use Rattle.pit_live.specs.LiveStarts.{LiveStart}
use Rattle.pit_live.specs.Live.{filing_of, live_run}
use Rattle.pit_live.proofs.Carrying.{run_on}
use Rattle.pit_live.proofs.engine.live.Goals as goal

pub returns-in-Ok : goal.returns-in-Ok
returns-in-Ok g c =
    let lines = writing_of (g.L.Sink.contents c.args.report.now) (g.L.Sink.contents c.live_on.new.report) (g.L.Sink.has_failed c.live_on.new.report) in
    let file = filing_of c.args.file.now c.live_on.new.file in
    let inside = c.input.inside in
    let start : LiveStart = record { pit = inside.pit; opening = inside.opening; cut = inside.cut; is_new = inside.is_new } in
    let opened : IsDeskOn start.pit start.opening c.in-Ok.desk = subst (λ (pit : Pit). IsDeskOn pit start.opening c.in-Ok.desk) c.keyed.ensures c.in-Ok.ensures in
    subst (λ (s : LiveStart). IsResultOf (live_run s c.args.planners file lines) tt c.live_on.result) c.input.view_is
    (run_on start c.args.planners file lines c.in-Ok.desk c.live_on.result opened c.live_on.ensures)
