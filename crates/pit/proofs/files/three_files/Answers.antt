use Rattle.std.proofs.Common.{None, false, inl, inr}
use Rattle.pit_step.specs.Devices.{reading_of}
use Rattle.pit_step.proofs.CallerLemmas.{err_handed}
use Rattle.pit.proofs.files.three_files.Goals as goal

pub returns-in_err-last-clause-err : goal.returns-in_err-last-clause-err
returns-in_err-last-clause-err g c =
    let left = g.D.File.Read.remaining in
    err_handed c.from_residual-in_err-last.result c.in_err-last.field-0.0 _ c.from_residual-in_err-last.ensures.0 c.from_residual-in_err-last.ensures.1
    (inr (
      reading_of (left c.in_ok-one.one.reader) None false,
      (c.in_ok-one.ensures.first_open, c.in_ok-one.ensures.first),
      inr (reading_of (left c.in_ok-one.other.reader) None false, (c.in_ok-one.ensures.second_open, c.in_ok-one.ensures.second), inl ((c.in_err-last.ensures.fails, c.in_err-last.ensures.fault), tt)),
    ))
