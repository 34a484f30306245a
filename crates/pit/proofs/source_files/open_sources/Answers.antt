use Rattle.std.proofs.Common.{ℕ, List, Option, map, subst}
use Rattle.pit_step.specs.declared.input.Input.{Input}
use Rattle.pit_step.proofs.CallerLemmas.{err_handed}
use Rattle.pit.specs.Histories.{kept_path, AreApart, IsMeeting}
use Rattle.pit.specs.OpenFiles.{all_files, name_of}
use Rattle.pit.specs.Sources.{in_order}
use Rattle.pit.proofs.Opening.{not-open, not-apart}
use Rattle.pit.proofs.source_files.open_sources.Goals as goal

pub returns-in_err-files-clause-err : goal.returns-in_err-files-clause-err
returns-in_err-files-clause-err g c =
    err_handed c.from_residual.result c.in_err-files.field-0.0 _ c.from_residual.ensures.0 c.from_residual.ensures.1
    (not-open (g.D.Disk.told c.args.disk.now) c.args.origin.now (in_order c.args.sources.now) c.in_err-files.field-0.0 c.in_err-files.ensures.err)

pub returns-clause-apart : goal.returns-clause-apart
returns-clause-apart g c =
    let told = g.D.Disk.told c.args.disk.now in
    subst (λ (names : List (Input × List ℕ)). AreApart told (kept_path c.args.origin.now) names) c.in_ok-files.ensures.opened.named
    (subst (λ (history : Option (List ℕ)). AreApart told history (map name_of (all_files c.in_ok-files.files))) c.kept_path.ensures c.in_ok-apart_from.ensures.apart)

pub returns-in_err-apart_from-clause-err : goal.returns-in_err-apart_from-clause-err
returns-in_err-apart_from-clause-err g c =
    let told = g.D.Disk.told c.args.disk.now in
    let fault = c.in_err-apart_from.field-0.0 in
    err_handed c.from_residual-in_err-apart_from.result fault _ c.from_residual-in_err-apart_from.ensures.0 c.from_residual-in_err-apart_from.ensures.1
    (not-apart told c.args.origin.now (in_order c.args.sources.now) fault c.in_ok-files.ensures.opened.opened
    (subst (λ (names : List (Input × List ℕ)). IsMeeting told (kept_path c.args.origin.now) names fault) c.in_ok-files.ensures.opened.named
    (subst (λ (history : Option (List ℕ)). IsMeeting told history (map name_of (all_files c.in_ok-files.files)) fault) c.kept_path.ensures c.in_err-apart_from.ensures.fault)))
