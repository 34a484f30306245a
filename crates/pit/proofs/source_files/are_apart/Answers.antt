use Rattle.std.proofs.Common.{◌++◌, Some, IfErr, OnOk, map, option_to_list, subst}
use Rattle.pit_step.proofs.CallerLemmas.{err_handed}
use Rattle.pit.specs.Histories.{AreApart, IsMeeting}
use Rattle.pit.specs.OpenFiles.{all_pit, name_of}
use Rattle.pit.proofs.Apart.{joined-apart, joined-meets, first-meets, then-meets}
use Rattle.pit.proofs.source_files.are_apart.Goals as goal

pub returns-in_err-apart_if-clause-fault : goal.returns-in_err-apart_if-clause-fault
returns-in_err-apart_if-clause-fault g c =
    let told = g.D.Disk.told c.args.disk.now in
    let history = Some c.args.history.now in
    let files = c.args.files.now in
    let fault = c.in_err-apart_if.field-0.0 in
    err_handed c.from_residual-in_err-apart_if.result fault _ c.from_residual-in_err-apart_if.ensures.0 c.from_residual-in_err-apart_if.ensures.1
    (then-meets told history fault (all_pit files.pit) (option_to_list files.begun ++ files.parts.items)
    (first-meets told history fault (option_to_list files.begun) files.parts.items c.in_err-apart_if.ensures.fault))

pub returns-clause-apart : goal.returns-clause-apart
returns-clause-apart g c =
    let told = g.D.Disk.told c.args.disk.now in
    let history = Some c.args.history.now in
    let files = c.args.files.now in
    let result = c.apart_each.result in
    joined-apart told history (all_pit files.pit) (option_to_list files.begun ++ files.parts.items) result c.in_ok-pit_apart.ensures.apart
    (joined-apart told history (option_to_list files.begun) files.parts.items result c.in_ok-apart_if.ensures.apart
    (subst (λ fs. OnOk result (AreApart told history (map name_of fs))) c.deref.ensures.value c.apart_each.ensures.apart))

pub returns-clause-fault : goal.returns-clause-fault
returns-clause-fault g c =
    let told = g.D.Disk.told c.args.disk.now in
    let history = Some c.args.history.now in
    let files = c.args.files.now in
    let result = c.apart_each.result in
    joined-meets told history (all_pit files.pit) (option_to_list files.begun ++ files.parts.items) result
    (joined-meets told history (option_to_list files.begun) files.parts.items result
    (subst (λ fs. IfErr result (IsMeeting told history (map name_of fs))) c.deref.ensures.value c.apart_each.ensures.fault))
