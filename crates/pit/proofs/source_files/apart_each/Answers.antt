use Rattle.std.proofs.Common.{rules, ◌≡◌, All, Some, slice_index_or, subst}
use Rattle.std.proofs.lemmas.List.{take_all}
use Rattle.pit_step.proofs.CallerLemmas.{err_handed}
use Rattle.pit.specs.OpenFiles.{name_of}
use Rattle.pit.proofs.Apart.{IsApart, all-more, each-apart, that-meets}
use Rattle.pit.proofs.source_files.apart_each.Goals as goal

pub loop-file-preserved : goal.loop-file-preserved
loop-file-preserved g c =
    let told = g.D.Disk.told c.args.disk.now in
    let history = Some c.args.history.now in
    let file = c.file-item.result in
    let is : file ≡ slice_index_or c.args.files.now c.loop-file.file-index file = search rules in
    all-more (λ file. IsApart told history (name_of file)) c.args.files.now c.loop-file.file-index file c.loop-file-test.true is c.loop-file.invariant c.in_ok-apart.ensures.apart

pub returns-in_err-apart-clause-fault : goal.returns-in_err-apart-clause-fault
returns-in_err-apart-clause-fault g c =
    let fault = c.in_err-apart.field-0.0 in
    let file = c.file-item.result in
    let is : file ≡ slice_index_or c.args.files.now c.loop-file.file-index file = search rules in
    err_handed c.from_residual.result fault _ c.from_residual.ensures.0 c.from_residual.ensures.1
    (that-meets (g.D.Disk.told c.args.disk.now) (Some c.args.history.now) fault c.args.files.now c.loop-file.file-index file c.loop-file-test.true is c.in_err-apart.ensures.fault)

pub returns-clause-apart : goal.returns-clause-apart
returns-clause-apart g c =
    let told = g.D.Disk.told c.args.disk.now in
    let history = Some c.args.history.now in
    each-apart told history c.args.files.now
    (subst (λ fs. All (λ file. IsApart told history (name_of file)) fs) (take_all c.loop-file.file-index c.args.files.now c.loop-file-test.false) c.loop-file.invariant)
