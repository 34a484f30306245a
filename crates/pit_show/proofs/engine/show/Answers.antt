use Rattle.std.proofs.Common.{inl, inr}
use Rattle.pit_step.proofs.CallerLemmas.{keeps_itself}
use Rattle.pit_step.proofs.CallerLemmas.{handed_on}
use Rattle.pit_show.proofs.engine.show.Goals as goal

pub returns-in_err-text : goal.returns-in_err-text
returns-in_err-text g c =
    handed_on c.from_residual-in_err-text.result c.in_err-text.field-0.0 _ _ c.from_residual-in_err-text.ensures.0 c.from_residual-in_err-text.ensures.1
    (inr (c.in_ok-pit.pit, c.in_ok-pit.ensures, inl (c.in_err-text.ensures, keeps_itself (g.W.Sink.contents c.args.out.now))))
