use Rattle.std.proofs.Common.{is_some, Result, Ok, Err, IfErr, ◌≡◌, ◌+◌, ◌++◌, ◌∷◌, [], ℕ, List, Option, None, ap, sym, ◌∙◌, slice_index_or}
use Rattle.std.specs.Option.{option_to_list, option_map}
use Rattle.std.proofs.lemmas.List.{append-nil}
use Rattle.pit_text.specs.Solution.{schedule_of, pair_of}
use Rattle.pit_text.proofs.Standing.{schedule_of-none, schedule_of-more}
use Rattle.pit_text.proofs.solution.schedule_of.Goals as goal
use Rattle.pit_text.proofs.solution.schedule_of.Goals.{in-Some+in_ok-push, in_default}

any-err : {T E : Type 0} {X : Type 0} (r : Result T E) → X → IfErr r (λ e. X)
any-err (Ok x) is = tt
any-err (Err e) is = is

pub loop-block-init : goal.loop-block-init
loop-block-init g c = c.new-solution.ensures.items ∙ sym (schedule_of-none (λ b. slice_index_or c.args.slots.now b None))

pub returns-in_err-push-clause-memory : goal.returns-in_err-push-clause-memory
returns-in_err-push-clause-memory g c =
    any-err c.from_residual.result (c.loop-block.block, ap (λ (o : Option ℕ). is_some o) c.in-Some.is)

pub loop-block-preserved : goal.loop-block-preserved
loop-block-preserved g c =
    let more : schedule_of (c.loop-block.block + 1) (λ b. slice_index_or c.args.slots.now b None) ≡ schedule_of c.loop-block.block (λ b. slice_index_or c.args.slots.now b None) ++ option_to_list (pair_of (λ b. slice_index_or c.args.slots.now b None) c.loop-block.block) =
    schedule_of-more c.loop-block.block (λ b. slice_index_or c.args.slots.now b None) in
    let with_slot : Option ℕ → List (ℕ × ℕ) = λ o. schedule_of c.loop-block.block (λ b. slice_index_or c.args.slots.now b None) ++ option_to_list (option_map (λ t. (c.loop-block.block, t)) o) in
    elim c.match-slot.branch [
      | in-Some+in_ok-push w ↦
          ap (λ v. v.items) w.solution-is
          ∙ w.in_ok-push.ensures.items
          ∙ ap (λ (ps : List (ℕ × ℕ)). ps ++ (c.loop-block.block, w.in-Some.period) ∷ []) c.loop-block.invariant
          ∙ ap with_slot (sym w.in-Some.is) ∙ sym more
      | in_default w ↦
          ap (λ v. v.items) w.solution-is
          ∙ c.loop-block.invariant
          ∙ sym (append-nil (schedule_of c.loop-block.block (λ b. slice_index_or c.args.slots.now b None)))
          ∙ ap with_slot (sym w.in_default.is) ∙ sym more
    ]
