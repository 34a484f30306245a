use Rattle.std.proofs.Common.{List, ℕ, inl, refl, subst, ◌∙◌}
use Rattle.pit_step.specs.Steps.{IsResultOf}
use Rattle.pit_step.specs.Devices.{writing_of}
use Rattle.pit_live.specs.Live.{carrying, carried_step, filing_of}
use Rattle.pit_step.proofs.CallerLemmas.{keeps_itself}
use Rattle.pit_live.proofs.Carrying.{unseated}
use Rattle.pit_live.proofs.engine.live_on.Goals as goal

pub returns-in_default : goal.returns-in_default
returns-in_default g c = unseated _ c.args.file.now _ _ (inl refl) (keeps_itself (g.L.Sink.contents c.args.report.now))

pub returns-in_default-to_lines_in : goal.returns-in_default-to_lines_in
returns-in_default-to_lines_in g c = unseated _ c.args.file.now _ _ (inl refl) (keeps_itself (g.L.Sink.contents c.args.report.now))

pub returns-in_default-share : goal.returns-in_default-share
returns-in_default-share g c = unseated _ c.args.file.now _ _ (inl refl) (keeps_itself (g.L.Sink.contents c.args.report.now))

pub returns : goal.returns
returns g c =
    let desk = c.args.desk in
    let lines = writing_of (g.L.Sink.contents c.args.report.now) (g.L.Sink.contents c.live_in.new.report) (g.L.Sink.has_failed c.live_in.new.report) in
    subst (λ (t : List ℕ). IsResultOf (carried_step (carrying desk.plan.pit desk.history c.args.planners t) (filing_of c.args.file.now c.live_in.new.file) lines) tt c.live_in.result)
    (c.deref.ensures.value ∙ c.in-Ok.ensures) c.live_in.ensures
