use Rattle.std.proofs.Common.{None, false, inl, inr}
use Rattle.pit_step.specs.Devices.{reading_of}
use Rattle.pit_step.proofs.CallerLemmas.{err_handed}
use Rattle.pit.proofs.files.two_files.Goals as goal

pub returns-in_err-other-clause-err : goal.returns-in_err-other-clause-err
returns-in_err-other-clause-err g c =
    err_handed c.from_residual-in_err-other.result c.in_err-other.field-0.0 _ c.from_residual-in_err-other.ensures.0 c.from_residual-in_err-other.ensures.1
    (inr (reading_of (g.D.File.Read.remaining c.in_ok-one.one) None false, (c.in_ok-one.ensures.opens, c.in_ok-one.ensures.file), inl ((c.in_err-other.ensures.fails, c.in_err-other.ensures.fault), tt)))
