use Rattle.std.proofs.Common.{ℕ, List, ◌∙◌, subst}
use Rattle.pit_step.specs.declared.input.Input.{Input}
use Rattle.pit.specs.Histories.{kept_path, AreApart}
use Rattle.pit.specs.OpenFiles.{AreOpen, all_files, files_step}
use Rattle.pit.proofs.Reading.{unopened, all-read}
use Rattle.pit.proofs.plan_texts.plan_input.Goals as goal

pub returns-in-Err : goal.returns-in-Err
returns-in-Err g c =
    let told = g.D.Disk.told c.args.disk.now in
    let words = c.args.words.now in
    unopened told words c.args.is_there c.in-Err.fault
    (subst (λ (names : List (Input × List ℕ)). (files_step told words.origin names).Fails tt c.in-Err.fault) c.plan_sources.ensures.order c.in-Err.ensures.err)

pub returns : goal.returns
returns g c =
    let told = g.D.Disk.told c.args.disk.now in
    let left = g.D.File.Read.remaining in
    let words = c.args.words.now in
    let files = all_files c.in-Ok.files in
    let order = c.plan_sources.ensures.order in
    all-read told words c.args.is_there left files (subst (λ (names : List (Input × List ℕ)). AreOpen left told names files) order c.in-Ok.ensures.opened)
    (subst (λ (names : List (Input × List ℕ)). AreApart told (kept_path words.origin) names) order c.in-Ok.ensures.apart) _ _ _ c.read_files.result
    (c.in-Ok.ensures.blocks ∙ c.plan_sources.ensures.blocks) (c.in-Ok.ensures.begun ∙ c.plan_sources.ensures.begun) c.is_continued.ensures
    c.read_files.ensures.texts c.read_files.ensures.blocks c.read_files.ensures.begun c.read_files.ensures.continued
