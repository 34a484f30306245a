use Rattle.std.proofs.Common.{ℕ, List, ◌∙◌, subst}
use Rattle.pit_step.specs.declared.input.Input.{Input}
use Rattle.pit_command.specs.declared.origin.Origin.TheVariants.{Continued}
use Rattle.pit.specs.Histories.{kept_path, AreApart}
use Rattle.pit.specs.OpenFiles.{AreOpen, all_files, files_step}
use Rattle.pit.proofs.LiveFiles.{unopened-live, placed-live, untold-live, no-parts}
use Rattle.pit.proofs.live_files.live_files.Goals as goal

pub returns-in-Err-clause-err : goal.returns-in-Err-clause-err
returns-in-Err-clause-err g c =
    let told = g.D.Disk.told c.args.disk.now in
    let words = c.args.words.now in
    unopened-live told words c.args.is_there c.in-Err.fault
    (subst (λ (names : List (Input × List ℕ)). (files_step told (Continued words.history) names).Fails tt c.in-Err.fault) c.live_sources.ensures.order c.in-Err.ensures.err)

pub returns-in-Err-told_streams-clause-err : goal.returns-in-Err-told_streams-clause-err
returns-in-Err-told_streams-clause-err g c =
    let told = g.D.Disk.told c.args.disk.now in
    let left = g.D.File.Read.remaining in
    let words = c.args.words.now in
    let files = all_files c.in-Ok.files in
    let order = c.live_sources.ensures.order in
    untold-live told words c.args.is_there left files (subst (λ (names : List (Input × List ℕ)). AreOpen left told names files) order c.in-Ok.ensures.opened)
    (subst (λ (names : List (Input × List ℕ)). AreApart told (kept_path (Continued words.history)) names) order c.in-Ok.ensures.apart) c.in-Err-told_streams.fault c.in-Err-told_streams.ensures

pub in_place-requires : goal.in_place-requires
in_place-requires g c =
    let sources = c.live_sources.ensures in
    no-parts c.args.words.now c.args.is_there c.in-Ok.files (c.in-Ok.ensures.opened.named ∙ sources.order) (c.in-Ok.ensures.blocks ∙ sources.blocks) (c.in-Ok.ensures.begun ∙ sources.begun)

pub returns-clause-ok : goal.returns-clause-ok
returns-clause-ok g c =
    let told = g.D.Disk.told c.args.disk.now in
    let left = g.D.File.Read.remaining in
    let words = c.args.words.now in
    let files = all_files c.in-Ok.files in
    let sources = c.live_sources.ensures in
    placed-live told words c.args.is_there left files (subst (λ (names : List (Input × List ℕ)). AreOpen left told names files) sources.order c.in-Ok.ensures.opened)
    (subst (λ (names : List (Input × List ℕ)). AreApart told (kept_path (Continued words.history)) names) sources.order c.in-Ok.ensures.apart) c.in_place.result c.in_place.ensures.known
    (c.in_place.ensures.blocks ∙ (c.in-Ok.ensures.blocks ∙ sources.blocks)) (c.in_place.ensures.history ∙ (c.in-Ok.ensures.begun ∙ sources.begun))
