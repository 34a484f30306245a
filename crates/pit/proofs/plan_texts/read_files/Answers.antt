use Rattle.std.proofs.Common.{ℕ, List, [], ◌∷◌, ◌++◌, inl, map, option_to_list, refl, subst}
use Rattle.pit_step.proofs.CallerLemmas.{handed_on}
use Rattle.pit.specs.OpenFiles.{all_files}
use Rattle.pit.specs.PlanRun.{read_all}
use Rattle.pit.proofs.Reading.{known_of, read-both, unread, unread-first, unread-then, unread-last, texts-are}
use Rattle.pit.proofs.plan_texts.read_files.Goals as goal

pub returns-clause-texts : goal.returns-clause-texts
returns-clause-texts g c =
    let left = g.F.Read.remaining in
    let files = c.args.files in
    let model = files.pit.model in
    let precedence = files.pit.precedence in
    let blocks = option_to_list files.pit.blocks in
    let begun = option_to_list files.begun in
    let parts = files.parts.items in
    let first = c.in_ok-model.model in
    let second = c.in_ok-precedence.precedence in
    let third = map (λ bytes. bytes.items) (option_to_list c.in_ok-blocks.blocks) in
    let fourth = map (λ bytes. bytes.items) (option_to_list c.in_ok-begun.begun) in
    let last = map (λ bytes. bytes.items) c.in_ok-scripts.scripts.items in
    let read = read-both left (model ∷ []) (precedence ∷ (blocks ++ (begun ++ parts))) (first.items ∷ []) (second.items ∷ (third ++ (fourth ++ last))) (c.in_ok-model.ensures, refl)
    (read-both left (precedence ∷ []) (blocks ++ (begun ++ parts)) (second.items ∷ []) (third ++ (fourth ++ last)) (c.in_ok-precedence.ensures, refl)
    (read-both left blocks (begun ++ parts) third (fourth ++ last) c.in_ok-blocks.ensures.bytes
    (read-both left begun parts fourth last c.in_ok-begun.ensures.bytes c.in_ok-scripts.ensures.2))) in (
      tt,
      (refl, tt),
      subst (λ (ts : List (List ℕ)). (read_all (map (known_of left) (all_files files))).Gives tt ts)
          (texts-are (λ bytes. bytes.items) c.new.result first second c.in_ok-blocks.blocks c.in_ok-begun.begun c.beginning_of-beginning.result c.in_ok-scripts.scripts.items c.new.ensures
          c.beginning_of-beginning.ensures.text) read,
    )

pub returns-in_err-model-clause-texts : goal.returns-in_err-model-clause-texts
returns-in_err-model-clause-texts g c =
    let left = g.F.Read.remaining in
    let files = c.args.files in
    let model = files.pit.model in
    let precedence = files.pit.precedence in
    let blocks = option_to_list files.pit.blocks in
    let begun = option_to_list files.begun in
    let parts = files.parts.items in
    let fault = c.in_err-model.field-0.0 in
    handed_on c.from_residual.result fault _ _ c.from_residual.ensures.0 c.from_residual.ensures.1
    (unread left (all_files files) fault (unread-first left (model ∷ []) (precedence ∷ (blocks ++ (begun ++ parts))) fault (inl (c.in_err-model.ensures, tt))))

pub returns-in_err-precedence-clause-texts : goal.returns-in_err-precedence-clause-texts
returns-in_err-precedence-clause-texts g c =
    let left = g.F.Read.remaining in
    let files = c.args.files in
    let model = files.pit.model in
    let precedence = files.pit.precedence in
    let blocks = option_to_list files.pit.blocks in
    let begun = option_to_list files.begun in
    let parts = files.parts.items in
    let fault = c.in_err-precedence.field-0.0 in
    handed_on c.from_residual-in_err-precedence.result fault _ _ c.from_residual-in_err-precedence.ensures.0 c.from_residual-in_err-precedence.ensures.1
    (unread left (all_files files) fault (unread-then left (model ∷ []) (precedence ∷ (blocks ++ (begun ++ parts))) (c.in_ok-model.model.items ∷ []) fault (c.in_ok-model.ensures, refl) (unread-first left (precedence ∷ []) (blocks ++ (begun ++ parts)) fault (inl (c.in_err-precedence.ensures, tt)))))

pub returns-in_err-blocks-clause-texts : goal.returns-in_err-blocks-clause-texts
returns-in_err-blocks-clause-texts g c =
    let left = g.F.Read.remaining in
    let files = c.args.files in
    let model = files.pit.model in
    let precedence = files.pit.precedence in
    let blocks = option_to_list files.pit.blocks in
    let begun = option_to_list files.begun in
    let parts = files.parts.items in
    let fault = c.in_err-blocks.field-0.0 in
    handed_on c.from_residual-in_err-blocks.result fault _ _ c.from_residual-in_err-blocks.ensures.0 c.from_residual-in_err-blocks.ensures.1
    (unread left (all_files files) fault (unread-then left (model ∷ []) (precedence ∷ (blocks ++ (begun ++ parts))) (c.in_ok-model.model.items ∷ []) fault (c.in_ok-model.ensures, refl)
    (unread-then left (precedence ∷ []) (blocks ++ (begun ++ parts)) (c.in_ok-precedence.precedence.items ∷ []) fault (c.in_ok-precedence.ensures, refl) (unread-first left blocks (begun ++ parts) fault c.in_err-blocks.ensures.bytes))))

pub returns-in_err-begun-clause-texts : goal.returns-in_err-begun-clause-texts
returns-in_err-begun-clause-texts g c =
    let left = g.F.Read.remaining in
    let files = c.args.files in
    let model = files.pit.model in
    let precedence = files.pit.precedence in
    let blocks = option_to_list files.pit.blocks in
    let begun = option_to_list files.begun in
    let parts = files.parts.items in
    let fault = c.in_err-begun.field-0.0 in
    handed_on c.from_residual-in_err-begun.result fault _ _ c.from_residual-in_err-begun.ensures.0 c.from_residual-in_err-begun.ensures.1
    (unread left (all_files files) fault (unread-then left (model ∷ []) (precedence ∷ (blocks ++ (begun ++ parts))) (c.in_ok-model.model.items ∷ []) fault (c.in_ok-model.ensures, refl)
    (unread-then left (precedence ∷ []) (blocks ++ (begun ++ parts)) (c.in_ok-precedence.precedence.items ∷ []) fault (c.in_ok-precedence.ensures, refl)
    (unread-then left blocks (begun ++ parts) (map (λ bytes. bytes.items) (option_to_list c.in_ok-blocks.blocks)) fault c.in_ok-blocks.ensures.bytes (unread-first left begun parts fault c.in_err-begun.ensures.bytes)))))

pub returns-in_err-scripts-clause-texts : goal.returns-in_err-scripts-clause-texts
returns-in_err-scripts-clause-texts g c =
    let left = g.F.Read.remaining in
    let files = c.args.files in
    let model = files.pit.model in
    let precedence = files.pit.precedence in
    let blocks = option_to_list files.pit.blocks in
    let begun = option_to_list files.begun in
    let parts = files.parts.items in
    let fault = c.in_err-scripts.field-0.0 in
    handed_on c.from_residual-in_err-scripts.result fault _ _ c.from_residual-in_err-scripts.ensures.0 c.from_residual-in_err-scripts.ensures.1
    (unread-last left (model ∷ []) (precedence ∷ (blocks ++ (begun ++ parts))) (c.in_ok-model.model.items ∷ []) fault (c.in_ok-model.ensures, refl)
    (unread-last left (precedence ∷ []) (blocks ++ (begun ++ parts)) (c.in_ok-precedence.precedence.items ∷ []) fault (c.in_ok-precedence.ensures, refl)
    (unread-last left blocks (begun ++ parts) (map (λ bytes. bytes.items) (option_to_list c.in_ok-blocks.blocks)) fault c.in_ok-blocks.ensures.bytes
    (unread-last left begun parts (map (λ bytes. bytes.items) (option_to_list c.in_ok-begun.begun)) fault c.in_ok-begun.ensures.bytes c.in_err-scripts.ensures))))
