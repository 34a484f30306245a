use Rattle.std.proofs.Common.{List, inl, inr, refl, subst, ℕ}
use Rattle.pit_step.proofs.CallerLemmas.{keeps_itself}
use Rattle.pit_live.specs.LiveFiles.{IsUnkeptFile}
use Rattle.pit_live.proofs.Carrying.{unseated, seated}
use Rattle.pit_live.proofs.Finishing.{kept_tells}
use Rattle.pit_live.proofs.sessions.live_at.Goals as goal

pub returns-in_default : goal.returns-in_default
returns-in_default g c = unseated _ c.args.file.now _ _ (inl refl) (keeps_itself (g.L.Sink.contents c.args.report.now))

pub returns-in_default-with_capacity : goal.returns-in_default-with_capacity
returns-in_default-with_capacity g c = unseated _ c.args.file.now _ _ (inl refl) (keeps_itself (g.L.Sink.contents c.args.report.now))

pub returns-in-Err : goal.returns-in-Err
returns-in-Err g c =
    inl (inr (subst (λ (text : List ℕ). IsUnkeptFile text c.args.file.now c.keep.new.self c.in-Err.fault) c.requires.text c.in-Err.ensures.fault), keeps_itself (g.L.Sink.contents c.args.report.now))

pub live_kept-requires-clause-filed : goal.live_kept-requires-clause-filed
live_kept-requires-clause-filed g c κs within = kept_tells c.args.text.now g.S.Session.opening c.args.file.now _ c.requires.text c.in-Ok-keep.ensures.kept

pub returns : goal.returns
returns g c = seated _ _ _ c.live_kept.result c.live_kept.ensures
