use Rattle.std.proofs.Common.{ℕ, List, [], ◌∷◌, option_to_list, subst}
use Rattle.pit_step.specs.declared.input.Input.{Input}
use Rattle.pit_step.specs.declared.input.Input.TheVariants.{Model, Precedence, Blocks}
use Rattle.pit_step.proofs.CallerLemmas.{err_handed}
use Rattle.pit.specs.Files.{path_if, file_if, open_each}
use Rattle.pit.specs.OpenFiles.{AreOpen, still}
use Rattle.pit.proofs.Opening.{both-open, fails-before, fails-behind}
use Rattle.pit.proofs.source_files.open_pit.Goals as goal

pub returns-clause-opened : goal.returns-clause-opened
returns-clause-opened g c =
    let told = g.D.Disk.told c.args.disk.now in
    let left = g.D.File.Read.remaining in
    let model : Input × List ℕ = (Model, c.args.model.now) in
    let precedence : Input × List ℕ = (Precedence, c.args.precedence.now) in
    let blocks = file_if Blocks (path_if c.args.blocks) in
    let last = option_to_list c.in_ok-blocks.blocks in
    both-open told left (model ∷ []) (precedence ∷ blocks) (c.in_ok-model.model ∷ []) (c.in_ok-precedence.precedence ∷ last) c.in_ok-model.ensures.opened
    (both-open told left (precedence ∷ []) blocks (c.in_ok-precedence.precedence ∷ []) last c.in_ok-precedence.ensures.opened
    (subst (λ (xs : List (Input × List ℕ)). AreOpen left told xs last) c.named.ensures.files c.in_ok-blocks.ensures.opened))

pub returns-in_err-model-clause-err : goal.returns-in_err-model-clause-err
returns-in_err-model-clause-err g c =
    let told = g.D.Disk.told c.args.disk.now in
    let fault = c.in_err-model.field-0.0 in
    err_handed c.from_residual.result fault _ c.from_residual.ensures.0 c.from_residual.ensures.1
    (fails-before told ((Model, c.args.model.now) ∷ []) ((Precedence, c.args.precedence.now) ∷ file_if Blocks (path_if c.args.blocks)) fault c.in_err-model.ensures.err)

pub returns-in_err-precedence-clause-err : goal.returns-in_err-precedence-clause-err
returns-in_err-precedence-clause-err g c =
    let told = g.D.Disk.told c.args.disk.now in
    let fault = c.in_err-precedence.field-0.0 in
    let model : Input × List ℕ = (Model, c.args.model.now) in
    let precedence : Input × List ℕ = (Precedence, c.args.precedence.now) in
    let blocks = file_if Blocks (path_if c.args.blocks) in
    err_handed c.from_residual-in_err-precedence.result fault _ c.from_residual-in_err-precedence.ensures.0 c.from_residual-in_err-precedence.ensures.1
    (fails-behind told (model ∷ []) (precedence ∷ blocks) (still told model ∷ []) fault c.in_ok-model.ensures.opened.opened (fails-before told (precedence ∷ []) blocks fault c.in_err-precedence.ensures.err))

pub returns-in_err-blocks-clause-err : goal.returns-in_err-blocks-clause-err
returns-in_err-blocks-clause-err g c =
    let told = g.D.Disk.told c.args.disk.now in
    let fault = c.in_err-blocks.field-0.0 in
    let model : Input × List ℕ = (Model, c.args.model.now) in
    let precedence : Input × List ℕ = (Precedence, c.args.precedence.now) in
    let blocks = file_if Blocks (path_if c.args.blocks) in
    err_handed c.from_residual-in_err-blocks.result fault _ c.from_residual-in_err-blocks.ensures.0 c.from_residual-in_err-blocks.ensures.1
    (fails-behind told (model ∷ []) (precedence ∷ blocks) (still told model ∷ []) fault c.in_ok-model.ensures.opened.opened
    (fails-behind told (precedence ∷ []) blocks (still told precedence ∷ []) fault c.in_ok-precedence.ensures.opened.opened
    (subst (λ (xs : List (Input × List ℕ)). (open_each told xs).Fails tt fault) c.named.ensures.files c.in_err-blocks.ensures.err)))
