use Rattle.std.proofs.Common.{◌++◌, inr, map, option_to_list, refl}
use Rattle.pit_step.proofs.CallerLemmas.{err_handed}
use Rattle.pit.specs.OpenFiles.{all_pit, still}
use Rattle.pit.specs.Sources.{file_by, part_files, pit_files}
use Rattle.pit.proofs.Opening.{both-open, fails-before, fails-behind, last-behind}
use Rattle.pit.proofs.source_files.open_all.Goals as goal

pub returns-clause-opened : goal.returns-clause-opened
returns-clause-opened g c =
    let told = g.D.Disk.told c.args.disk.now in
    let left = g.D.File.Read.remaining in
    let s = c.args.sources.now in
    both-open told left (pit_files s.model s.precedence s.blocks) (file_by s.begun ++ part_files s.parts) (all_pit c.in_ok-pit.pit)
    (option_to_list c.in_ok-begun.begun ++ c.in_ok-parts.parts.items) c.in_ok-pit.ensures.opened
    (both-open told left (file_by s.begun) (part_files s.parts) (option_to_list c.in_ok-begun.begun) c.in_ok-parts.parts.items c.in_ok-begun.ensures.opened c.in_ok-parts.ensures.opened)

pub returns-in_err-pit-clause-err : goal.returns-in_err-pit-clause-err
returns-in_err-pit-clause-err g c =
    let told = g.D.Disk.told c.args.disk.now in
    let s = c.args.sources.now in
    let fault = c.in_err-pit.field-0.0 in
    err_handed c.from_residual.result fault _ c.from_residual.ensures.0 c.from_residual.ensures.1
    (inr (tt, (refl, tt), fails-before told (pit_files s.model s.precedence s.blocks) (file_by s.begun ++ part_files s.parts) fault c.in_err-pit.ensures.err))

pub returns-in_err-begun-clause-err : goal.returns-in_err-begun-clause-err
returns-in_err-begun-clause-err g c =
    let told = g.D.Disk.told c.args.disk.now in
    let s = c.args.sources.now in
    let fault = c.in_err-begun.field-0.0 in
    let pit = pit_files s.model s.precedence s.blocks in
    err_handed c.from_residual-in_err-begun.result fault _ c.from_residual-in_err-begun.ensures.0 c.from_residual-in_err-begun.ensures.1
    (inr (
      tt,
      (refl, tt),
      fails-behind told pit (file_by s.begun ++ part_files s.parts) (map (still told) pit) fault c.in_ok-pit.ensures.opened.opened
          (fails-before told (file_by s.begun) (part_files s.parts) fault c.in_err-begun.ensures.err),
    ))

pub returns-in_err-parts-clause-err : goal.returns-in_err-parts-clause-err
returns-in_err-parts-clause-err g c =
    let told = g.D.Disk.told c.args.disk.now in
    let s = c.args.sources.now in
    let fault = c.in_err-parts.field-0.0 in
    let pit = pit_files s.model s.precedence s.blocks in
    err_handed c.from_residual-in_err-parts.result fault _ c.from_residual-in_err-parts.ensures.0 c.from_residual-in_err-parts.ensures.1
    (last-behind told (pit) (file_by s.begun) (part_files s.parts) fault c.in_ok-pit.ensures.opened.opened c.in_ok-begun.ensures.opened.opened c.in_err-parts.ensures.err)
