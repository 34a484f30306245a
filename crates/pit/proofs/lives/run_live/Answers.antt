use Rattle.std.proofs.Common.{◌≡◌, inl, inr, refl, sym, subst, true, length, IfSome}
use Rattle.std.proofs.lemmas.Result.{MatchResult-weaker}
use Rattle.pit_live.specs.LiveFiles.{FileKnown}
use Rattle.pit.specs.LiveRun.{IsHeld}
use Rattle.pit.proofs.lives.run_live.Goals as goal

pub returns-in-Err : goal.returns-in-Err
returns-in-Err g c = inl (c.in-Err.ensures.fault, refl)

pub returns : goal.returns
returns g c =
    let at = c.carry_on-answer.ensures in
    let held : IsHeld ((g.D.Disk.told c.args.disk.now).refusal true c.args.words.now.history.now) at.0 =
    record { sound = c.in-Ok.ensures.ready; new = subst (λ (known : FileKnown). IfSome known.stood (λ all. length all ≡ 1)) (sym at.1) c.in-Ok.ensures.new } in
    MatchResult-weaker c.carry_on-answer.result.0 at.2 (λ status gives. (at.0, held, gives)) (λ fault fails. inr (at.0, held, fails))
