-- An edit whose text is what is shown of a history.
use Rattle.std.proofs.Common.{◌≡◌, ℕ, ◌<◌, ◌≤◌, ◌==◌, ◌&&◌, Bool, true, false, List, [], ◌++◌, length, take, map, Option, None, refl, sym, ap, subst, ◌∙◌, arith}
use Rattle.std.specs.List.{range_with_len}
use Rattle.std.proofs.lemmas.List.{take-append-le}
use Rattle.std.proofs.lemmas.List.FromFn.{length-map-range_with_len, get_or-map-range_with_len}
use Rattle.pit_model.specs.Pit.{Pit}
use Rattle.pit_plan.specs.Schedule.{Commit, held_period, last_number}
use Rattle.pit_desk.specs.History.{Answered, commits_of}
use Rattle.pit_step.specs.declared.input.Input.TheVariants as input
use Rattle.pit_step.proofs.CallerLemmas.{decided-solution}
use Rattle.pit_state.specs.States.{is_history, commits_of_schedule, IsSolutionState, IsStateBy, IsStateOf}
use Rattle.pit_state.proofs.CallerLemmas.{commits_of-append}
use Rattle.pit_base.specs.Again.{StandsForLeft}
use Rattle.pit_base.specs.Bases.{IsSolutionBase}
use Rattle.pit_base.specs.Held.{AreLeft}
use Rattle.pit_desk.specs.declared.reply.EntryReply.{EntryReply}
use Rattle.pit_edit.specs.Changes.{Edit, base_of, wanted_of, changes_of, kept_of, left_of}
use Rattle.pit_edit.specs.Calls.{IsEntered}
use Rattle.pit_edit.specs.Merging.{was_granted}
use Rattle.pit_merge.specs.declared.options.MergeOptions.{MergeOptions}
use Rattle.pit_merge.specs.Edits.{Ground, Merged, IsBaseBy, IsEditOf, IsTaken}

-- the text of a solution stands for one list of commits
one-state : (pit : Pit) (text : List ℕ) (commits other : List Commit) → is_history text ≡ false → IsStateOf pit text commits → IsStateOf pit text other → commits ≡ other
unfolding IsStateOf
one-state pit text commits other kind one two =
    let p : IsSolutionState pit text commits = subst (λ (k : Bool). IsStateBy k pit text commits) kind one in
    let q : IsSolutionState pit text other = subst (λ (k : Bool). IsStateBy k pit text other) kind two in
    p.are ∙ (ap commits_of_schedule ((decided-solution input.Schedule pit text).once.values p.schedule q.schedule p.stands q.stands) ∙ sym q.are)

-- the periods that commits leave, as a list
periods_of : ℕ → List Commit → List (Option ℕ)
periods_of blocks commits = map (held_period commits) (range_with_len 0 blocks)

periods-left : (blocks : ℕ) (commits : List Commit) → AreLeft blocks commits (periods_of blocks commits)
unfolding periods_of
periods-left blocks commits = record {
  count = length-map-range_with_len (held_period commits) 0 blocks;
  each = λ b below. get_or-map-range_with_len (held_period commits) 0 blocks b b None below (omega arith);
}

-- commits that leave each block the same
left-same : (blocks : ℕ) (commits other : List Commit) (periods : List (Option ℕ)) → ((b : ℕ) → b < blocks → held_period other b ≡ held_period commits b) → AreLeft blocks commits periods → AreLeft blocks other periods
left-same blocks commits other periods same left = record { count = left.count; each = λ b below. left.each b below ∙ sym (same b below) }

module _ (ground : Ground) (from : Option ℕ) (number : ℕ) (entries rest : List Answered) (answer : List ℕ) (count : ℕ) (ours : ground.ours ≡ entries ++ rest) (enough : count ≤ length (commits_of entries))
    (stands : StandsForLeft ground.pit answer (take count (commits_of entries))) where
  -- of all commits these are the first ones too
  first-ours : take count (commits_of ground.ours) ≡ take count (commits_of entries)
  first-ours =
      ap (λ (h : List Answered). take count (commits_of h)) ours
      ∙ (ap (λ (cs : List Commit). take count cs) (commits_of-append entries rest) ∙ take-append-le count (commits_of entries) (commits_of rest) enough)

  abbrev IsBase : ℕ → Type 0
  IsBase n = IsSolutionBase (entries ++ rest) ground.is_resumed from answer n

  -- it is one
  pub shown-edit : IsBase count → (edit : Edit) × IsEditOf ground from number answer edit
  shown-edit base =
      let periods : List (Option ℕ) = periods_of ground.pit.blocks (take count (commits_of entries)) in
      let left : AreLeft ground.pit.blocks (take count (commits_of entries)) periods = periods-left ground.pit.blocks (take count (commits_of entries)) in (
        record { number = number; start = count; base = periods; wanted = periods },
        record {
          number_is = refl;
          wanted = record {
            commits = stands.again;
            stands = stands.stands;
            left = left-same ground.pit.blocks (take count (commits_of entries)) stands.again periods stands.same left;
            base = subst (λ (k : Bool). IsBaseBy k ground from answer count) (sym stands.kind) (subst (λ (h : List Answered). IsSolutionBase h ground.is_resumed from answer count) (sym ours) base);
          };
          base = subst (λ (cs : List Commit). AreLeft ground.pit.blocks cs periods) (sym first-ours) left;
        },
      )

  -- it wants what its base has
  module _ (edit : Edit) (is : IsEditOf ground from number answer edit) (base_is : IsBase edit.start → edit.start ≡ count) where
    start-is : edit.start ≡ count
    start-is =
        let base : IsSolutionBase ground.ours ground.is_resumed from answer edit.start = subst (λ (k : Bool). IsBaseBy k ground from answer edit.start) stands.kind is.wanted.base in
        base_is (subst (λ (h : List Answered). IsSolutionBase h ground.is_resumed from answer edit.start) ours base)

    pub wants-base : (b : ℕ) → b < ground.pit.blocks → wanted_of edit b ≡ base_of edit b
    wants-base b below =
        let wanted : wanted_of edit b ≡ held_period (take count (commits_of entries)) b =
        is.wanted.left.each b below
        ∙ (ap (λ (cs : List Commit). held_period cs b) (one-state ground.pit answer is.wanted.commits stands.again stands.kind is.wanted.stands stands.stands) ∙ stands.same b below) in
        let base : base_of edit b ≡ held_period (take count (commits_of entries)) b =
        is.base.each b below ∙ ap (λ (cs : List Commit). held_period cs b) (ap (λ (n : ℕ). take n (commits_of ground.ours)) start-is ∙ first-ours) in
        wanted ∙ sym base

-- ---- where nothing is changed

kept-nothing : (is_partial : Bool) (start : ℕ) (version : ℕ → ℕ) → (kept_of is_partial start version [] ≡ []) × (left_of is_partial start version [] ≡ [])
kept-nothing true start version = (refl, refl)
kept-nothing false start version = (refl, refl)

stays : (whole : Bool) → (whole && true) ≡ whole
stays true = refl
stays false = refl

-- there is no call
pub nothing-taken : (options : MergeOptions) (number : ℕ) (text : List ℕ) (old new : Merged) (taken : IsTaken options number text old new)
    → changes_of old.merging.desk.plan.pit.blocks taken.edit (held_period (commits_of old.merging.desk.history)) ≡ []
    → (new.merging.desk.history ≡ old.merging.desk.history) × (new.merging.is_whole ≡ old.merging.is_whole)
nothing-taken options number text old new taken none =
    let merged = taken.merged in
    let start : ℕ = taken.edit.start in
    let version : ℕ → ℕ = last_number (commits_of old.merging.desk.history) in
    let nothing = kept-nothing options.is_partial start version in
    let kept : merged.kept ≡ [] = merged.kept_are ∙ (ap (λ (bs : List ℕ). kept_of options.is_partial start version bs) (merged.changes_are ∙ none) ∙ nothing.0) in
    let left : merged.left ≡ [] = merged.left_are ∙ (ap (λ (bs : List ℕ). left_of options.is_partial start version bs) (merged.changes_are ∙ none) ∙ nothing.1) in
    let entered : (new.merging.desk.history ≡ old.merging.desk.history) × (merged.reply ≡ None) =
    subst (λ (bs : List ℕ). IsEntered old.merging.desk.plan.pit old.merging.desk.history taken.edit bs new.merging.desk.history merged.reply) kept merged.entered in (
      entered.0,
      merged.whole
          ∙ (ap (λ (reply : Option EntryReply). old.merging.is_whole && (was_granted reply && length merged.left == 0)) entered.1
          ∙ (ap (λ (bs : List ℕ). old.merging.is_whole && length bs == 0) left ∙ stays old.merging.is_whole)),
    )
