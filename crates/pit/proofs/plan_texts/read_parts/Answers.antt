use Rattle.std.proofs.Common.{◌∷◌, [], ◌++◌, List, ℕ, inl, inr, map, refl, ap, subst, sym, ◌∙◌}
use Rattle.std.proofs.lemmas.List.{map_push}
use Rattle.std.specs.Vec.Iter.{into_iter_items}
use Rattle.pit_step.proofs.CallerLemmas.{handed_on}
use Rattle.pit.specs.PlanRun.{read_all}
use Rattle.pit.proofs.Reading.{known_of, read-both, reading-left, taken-more, unread-then, wants-memory}
use Rattle.pit.proofs.plan_texts.read_parts.Goals as goal

pub loop-file-preserved : goal.loop-file-preserved
loop-file-preserved g c =
    let left = g.F.Read.remaining in
    let texts = map (λ bytes. bytes.items) c.loop-file.texts.items in
    let bytes = c.in_ok-bytes.bytes in
    let yielded = c.loop-file.yielded in
    let file = c.in-Some.file in
    subst (λ (ts : List (List ℕ)). (read_all (map (known_of left) (yielded ++ file ∷ []))).Gives tt ts)
    (sym (ap (λ xs. map (λ bytes. bytes.items) xs) c.in_ok-push.ensures.ok ∙ map_push (λ bytes. bytes.items) c.loop-file.texts.items bytes))
    (read-both left yielded (file ∷ []) texts (bytes.items ∷ []) c.loop-file.invariant (c.in_ok-bytes.ensures, refl))

pub returns-in_err-bytes : goal.returns-in_err-bytes
returns-in_err-bytes g c =
    let left = g.F.Read.remaining in
    let fault = c.in_err-bytes.field-0.0 in
    let yielded = c.loop-file.yielded in
    let file = c.in-Some.file in
    let rest = into_iter_items c.next.new.self in
    let start = c.into_iter-file-iterator.result in
    let all = taken-more start yielded c.loop-file.file-iterator file c.next.new.self c.loop-file.yielded_by c.in-Some.ensures.steps in
    handed_on c.from_residual.result fault _ _ c.from_residual.ensures.0 c.from_residual.ensures.1
    (inr (
      tt,
      (refl, tt),
      subst (λ fs. (read_all (map (known_of left) fs)).Fails tt fault) (sym all ∙ c.into_iter-file-iterator.ensures.into_iter_gives.0)
          (unread-then left yielded (file ∷ rest) (map (λ bytes. bytes.items) c.loop-file.texts.items) fault c.loop-file.invariant
          (inl (c.in_err-bytes.ensures, reading-left 2 (map (known_of left) rest)))),
    ))

pub returns-in_err-push : goal.returns-in_err-push
returns-in_err-push g c =
    let fault = c.in_err-push.field-0.0 in
    handed_on c.from_residual-in_err-push.result fault _ _ c.from_residual-in_err-push.ensures.0 c.from_residual-in_err-push.ensures.1
    (wants-memory (map (known_of g.F.Read.remaining) c.args.files.items) fault c.in_err-push.ensures.err)
