use Rattle.std.proofs.Common.{inl, inr}
use Rattle.std.proofs.lemmas.Result.{MatchResult-weaker}
use Rattle.pit_step.proofs.CallerLemmas.{handed_on}
use Rattle.pit_cli.proofs.texts.pit_of.Goals as goal

pub returns-in_err-bare : goal.returns-in_err-bare
returns-in_err-bare g c =
    handed_on c.from_residual.result c.in_err-bare.field-0.0 _ _ c.from_residual.ensures.0 c.from_residual.ensures.1 (inl (c.in_err-bare.ensures, (tt, tt)))

pub returns-in_err-given : goal.returns-in_err-given
returns-in_err-given g c =
    handed_on c.from_residual-in_err-given.result c.in_err-given.field-0.0 _ _ c.from_residual-in_err-given.ensures.0 c.from_residual-in_err-given.ensures.1
    (inr (c.in_ok-bare.bare, c.in_ok-bare.ensures, inl (c.in_err-given.ensures, tt)))

pub returns : goal.returns
returns g c =
    MatchResult-weaker c.placed_pit.result c.placed_pit.ensures
    (λ pit places. (c.in_ok-bare.bare, c.in_ok-bare.ensures, (c.in_ok-given.given, c.in_ok-given.ensures, places)))
    (λ fault fails. inr (c.in_ok-bare.bare, c.in_ok-bare.ensures, inr (c.in_ok-given.given, c.in_ok-given.ensures, fails)))
