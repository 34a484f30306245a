use Rattle.std.proofs.Common.{◌+◌, inl, inr, take, refl, subst, sym}
use Rattle.std.proofs.lemmas.List.{get_or_default}
use Rattle.pit_step.proofs.CallerLemmas.{err_handed}
use Rattle.pit.specs.Files.{numbered, open_each}
use Rattle.pit.specs.OpenFiles.{AreOpen}
use Rattle.pit.specs.Sources.{part_input, part_files}
use Rattle.pit.proofs.Opening.{texts_of, more-open, stops-open, opening-left}
use Rattle.pit.proofs.source_files.open_parts.Goals as goal

pub loop-i-preserved : goal.loop-i-preserved
loop-i-preserved g c =
    let told = g.D.Disk.told c.args.disk.now in
    let left = g.D.File.Read.remaining in
    let paths = c.paths-paths.result.now in
    let i = c.loop-i.i in
    subst (λ files. AreOpen left told (numbered (part_input c.args.parts.now) 1 (texts_of (take (i + 1) paths))) files) (sym c.in_ok-push.ensures.ok)
    (more-open told left (part_input c.args.parts.now) paths i _ c.loop-i.files.items c.in_ok-file.file c.loop-i-test.true (get_or_default paths i _ _ c.loop-i-test.true)
    c.loop-i.invariant c.input.result c.input.ensures c.in_ok-file.ensures.opened)

pub returns-in_err-file-clause-err : goal.returns-in_err-file-clause-err
returns-in_err-file-clause-err g c =
    let told = g.D.Disk.told c.args.disk.now in
    let left = g.D.File.Read.remaining in
    let parts = c.args.parts.now in
    let paths = c.paths-paths.result.now in
    let i = c.loop-i.i in
    let fault = c.in_err-file.field-0.0 in
    err_handed c.from_residual.result fault _ c.from_residual.ensures.0 c.from_residual.ensures.1
    (inr (
      tt,
      (refl, tt),
      subst (λ ps. (open_each told (numbered (part_input parts) 1 (texts_of ps.now))).Fails tt fault) c.paths-paths.ensures
          (stops-open told left (part_input parts) paths i _ c.loop-i.files.items fault c.loop-i-test.true (get_or_default paths i _ _ c.loop-i-test.true) c.loop-i.invariant
          c.input.result c.input.ensures c.in_err-file.ensures.err),
    ))

pub returns-in_err-push-clause-err : goal.returns-in_err-push-clause-err
returns-in_err-push-clause-err g c =
    err_handed c.from_residual-in_err-push.result c.in_err-push.field-0.0 _ c.from_residual-in_err-push.ensures.0 c.from_residual-in_err-push.ensures.1
    (inl (c.in_err-push.ensures.err, opening-left (g.D.Disk.told c.args.disk.now) 1 (part_files c.args.parts.now)))
