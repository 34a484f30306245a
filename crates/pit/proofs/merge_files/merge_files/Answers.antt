use Rattle.std.proofs.Common.{ℕ, List, ◌∙◌, subst}
use Rattle.pit_step.specs.declared.input.Input.{Input}
use Rattle.pit.specs.Histories.{kept_path, AreApart}
use Rattle.pit.specs.OpenFiles.{AreOpen, all_files, files_step}
use Rattle.pit.proofs.MergeFiles.{unopened-files, placed-files}
use Rattle.pit.proofs.merge_files.merge_files.Goals as goal

pub returns-in-Err : goal.returns-in-Err
returns-in-Err g c =
    let told = g.D.Disk.told c.args.disk.now in
    let words = c.args.words.now in
    unopened-files told words c.args.is_there c.in-Err.fault
    (subst (λ (names : List (Input × List ℕ)). (files_step told words.origin names).Fails tt c.in-Err.fault) c.merge_sources.ensures.order c.in-Err.ensures.err)

pub in_place-requires : goal.in_place-requires
in_place-requires g c = c.in-Ok.ensures.blocks ∙ c.merge_sources.ensures.blocks

pub returns : goal.returns
returns g c =
    let told = g.D.Disk.told c.args.disk.now in
    let left = g.D.File.Read.remaining in
    let words = c.args.words.now in
    let files = all_files c.in-Ok.files in
    let order = c.merge_sources.ensures.order in
    placed-files told words c.args.is_there left files _ c.in_place.result (subst (λ (names : List (Input × List ℕ)). AreOpen left told names files) order c.in-Ok.ensures.opened)
    (subst (λ (names : List (Input × List ℕ)). AreApart told (kept_path words.origin) names) order c.in-Ok.ensures.apart)
    (c.in-Ok.ensures.begun ∙ c.merge_sources.ensures.begun) c.in_place.ensures.ok c.in_place.ensures.err
