-- A text stands for one edit or has one fault, out of memory aside; and an edit leads a merge on in one way.
use Rattle.std.proofs.Common.{◌≡◌, ◌≢◌, ℕ, ◌==◌, ◌&&◌, Bool, true, false, List, [], ◌∷◌, ◌++◌, length, take, Option, Some, inl, inr, sym, ap, subst, ◌∙◌}
use Rattle.pit_model.specs.Pit.{Pit}
use Rattle.pit_plan.specs.Schedule.{Commit, held_period, last_number}
use Rattle.pit_desk.specs.History.{Call, Answered, commits_of}
use Rattle.pit_desk.specs.Replies.{IsReply}
use Rattle.pit_desk.specs.declared.reply.EntryReply.{EntryReply}
use Rattle.pit_step.specs.declared.input.Input.TheVariants as input
use Rattle.pit_step.specs.declared.fault.CliFault.{CliFault}
use Rattle.pit_step.specs.declared.fault.CliFault.TheVariants.{NoMemory}
use Rattle.pit_step.specs.Steps.{judge_step}
use Rattle.pit_step.proofs.CallerLemmas.{IsSeen, IsOneText, IsOneHistory, IsNeverBad, IsOneFault}
use Rattle.pit_state.specs.States.{is_history, IsStateOf, IsStateFault}
use Rattle.pit_state.proofs.CallerLemmas.{state_text}
use Rattle.pit_base.specs.Bases.{IsHistoryBase, fault_of}
use Rattle.pit_base.specs.Held.{AreLeft}
use Rattle.pit_base.specs.declared.error.BaseFault.{BaseFault}
use Rattle.pit_base.specs.declared.error.BaseFault.TheVariants as why
use Rattle.pit_base.proofs.CallerLemmas.{one-history_base, history_base-apart, one-solution_base, solution_base-apart, one-solution_fault, one-left}
use Rattle.pit_edit.specs.Changes.{Edit, changes_of, kept_of, left_of}
use Rattle.pit_edit.specs.Calls.{edit_call, edit_entry, IsEntered}
use Rattle.pit_edit.specs.EditText.{edit_text}
use Rattle.pit_edit.specs.Merging.{was_granted, IsMerged}
use Rattle.pit_merge.specs.declared.options.MergeOptions.{MergeOptions}
use Rattle.pit_merge.specs.Edits.{Ground, Merged, ground_of, IsSharedBase, IsBaseBy, IsBaseFaultBy, IsEditOf, IsEditFault, IsTaken}
use Rattle.pit_merge.proofs.Alike.{AreAlike}

-- ---- what matters of where a merge stands: all but the plan that its desk keeps, its limit and its room

pub record SoFar : Type 0 where
  pub pit : Pit
  pub history : List Answered
  pub ours : List Answered
  pub is_resumed : Bool
  pub lines : List ℕ
  pub is_whole : Bool

abbrev pub so_far : Merged → SoFar
so_far merged = record {
  pit = merged.merging.desk.plan.pit;
  history = merged.merging.desk.history;
  ours = merged.ours;
  is_resumed = merged.is_resumed;
  lines = merged.merging.lines;
  is_whole = merged.merging.is_whole;
}

abbrev ground_at : SoFar → Ground
ground_at at = record { pit = at.pit; ours = at.ours; is_resumed = at.is_resumed }

pub same-so_far : (at other : SoFar) → at.pit ≡ other.pit → at.history ≡ other.history → at.ours ≡ other.ours → at.is_resumed ≡ other.is_resumed → at.lines ≡ other.lines → at.is_whole ≡ other.is_whole → at ≡ other
same-so_far at other pit history ours is_resumed lines is_whole =
    ap (λ (p : Pit). record at { pit = p }) pit
    ∙ (ap (λ (es : List Answered). record at { pit = other.pit; history = es }) history
    ∙ (ap (λ (es : List Answered). record at { pit = other.pit; history = other.history; ours = es }) ours
    ∙ (ap (λ (b : Bool). record other { is_resumed = b; lines = at.lines; is_whole = at.is_whole }) is_resumed
    ∙ (ap (λ (xs : List ℕ). record other { lines = xs; is_whole = at.is_whole }) lines ∙ ap (λ (b : Bool). record other { is_whole = b }) is_whole))))

-- ---- an edit's changes

abbrev changed : Edit → SoFar → List ℕ
changed edit at = changes_of at.pit.blocks edit (held_period (commits_of at.history))

abbrev written : Bool → Edit → SoFar → List ℕ
written is_partial edit at = kept_of is_partial edit.start (last_number (commits_of at.history)) (changed edit at)

abbrev left_out : Bool → Edit → SoFar → List ℕ
left_out is_partial edit at = left_of is_partial edit.start (last_number (commits_of at.history)) (changed edit at)

-- an edit leads on from one to the other
record LeadsOn (is_partial : Bool) (edit : Edit) (old new : SoFar) : Type 0 where
  pub reply : Option EntryReply
  pub entered : IsEntered old.pit old.history edit (written is_partial edit old) new.history reply
  pub same_pit : new.pit ≡ old.pit
  pub same_ours : new.ours ≡ old.ours
  pub same_resumed : new.is_resumed ≡ old.is_resumed
  pub reported : new.lines ≡ old.lines ++ edit_text is_partial old.history edit (changed edit old) (written is_partial edit old) reply
  pub whole : new.is_whole ≡ (old.is_whole && (was_granted reply && length (left_out is_partial edit old) == 0))

taken-leads : (options : MergeOptions) (number : ℕ) (text : List ℕ) (old new : Merged) (is : IsTaken options number text old new) → LeadsOn options.is_partial is.edit (so_far old) (so_far new)
taken-leads options number text old new is =
    let m : IsMerged options.is_partial is.edit old.merging new.merging = is.merged in
    let before : List Answered = old.merging.desk.history in
    let numbers : ℕ → ℕ = last_number (commits_of before) in
    let kept : m.kept ≡ written options.is_partial is.edit (so_far old) = m.kept_are ∙ ap (λ (bs : List ℕ). kept_of options.is_partial is.edit.start numbers bs) m.changes_are in
    let left : m.left ≡ left_out options.is_partial is.edit (so_far old) = m.left_are ∙ ap (λ (bs : List ℕ). left_of options.is_partial is.edit.start numbers bs) m.changes_are in
    record {
      reply = m.reply;
      entered = subst (λ (bs : List ℕ). IsEntered old.merging.desk.plan.pit before is.edit bs new.merging.desk.history m.reply) kept m.entered;
      same_pit = m.same_pit;
      same_ours = is.same_ours;
      same_resumed = is.same_resumed;
      reported = m.reported
          ∙ (ap (λ (bs : List ℕ). old.merging.lines ++ edit_text options.is_partial before is.edit bs m.kept m.reply) m.changes_are
          ∙ ap (λ (bs : List ℕ). old.merging.lines ++ edit_text options.is_partial before is.edit (changed is.edit (so_far old)) bs m.reply) kept);
      whole = m.whole ∙ ap (λ (bs : List ℕ). old.merging.is_whole && (was_granted m.reply && length bs == 0)) left;
    }

-- ---- a law of the desk

abbrev pub IsOneReply : Type 0
IsOneReply = (pit : Pit) (commits : List Commit) (call : Call) (reply other : EntryReply) → IsReply pit commits call reply → IsReply pit commits call other → reply ≡ other

module _ (one_reply : IsOneReply) where
  one-entry : (pit : Pit) (before : List Answered) (edit : Edit) (blocks : List ℕ) (after more : List Answered) (reply other : Option EntryReply) → IsEntered pit before edit blocks after reply
      → IsEntered pit before edit blocks more other → (after ≡ more) × (reply ≡ other)
  one-entry pit before edit [] after more reply other p q = (p.0 ∙ sym q.0, p.1 ∙ sym q.1)
  one-entry pit before edit (b ∷ blocks) after more reply other p q =
      let due : p.due ≡ q.due = one_reply pit (commits_of before) (edit_call edit (b ∷ blocks)) p.due q.due p.is_due q.is_due in (
        p.after_is ∙ (ap (λ (r : EntryReply). before ++ edit_entry edit (b ∷ blocks) r ∷ []) due ∙ sym q.after_is),
        p.reply_is ∙ (ap (λ (r : EntryReply). Some r) due ∙ sym q.reply_is),
      )

  one-lead : (is_partial : Bool) (edit : Edit) (old new other : SoFar) → LeadsOn is_partial edit old new → LeadsOn is_partial edit old other → new ≡ other
  one-lead is_partial edit old new other p q =
      let same = one-entry old.pit old.history edit (written is_partial edit old) new.history other.history p.reply q.reply p.entered q.entered in
      same-so_far new other (p.same_pit ∙ sym q.same_pit) same.0 (p.same_ours ∙ sym q.same_ours) (p.same_resumed ∙ sym q.same_resumed)
      (p.reported ∙ (ap (λ (r : Option EntryReply). old.lines ++ edit_text is_partial old.history edit (changed edit old) (written is_partial edit old) r) same.1 ∙ sym q.reported))
      (p.whole ∙ (ap (λ (r : Option EntryReply). old.is_whole && (was_granted r && length (left_out is_partial edit old) == 0)) same.1 ∙ sym q.whole))

-- ---- the edit of a text

same-edit : (edit other : Edit) → edit.number ≡ other.number → edit.start ≡ other.start → edit.base ≡ other.base → edit.wanted ≡ other.wanted → edit ≡ other
same-edit edit other number start base wanted =
    ap (λ (n : ℕ). record edit { number = n }) number
    ∙ (ap (λ (n : ℕ). record edit { number = other.number; start = n }) start
    ∙ (ap (λ (ps : List (Option ℕ)). record other { base = ps; wanted = edit.wanted }) base ∙ ap (λ (ps : List (Option ℕ)). record other { wanted = ps }) wanted))

module _ (one_history : IsOneHistory) (never_bad : IsNeverBad) (one_fault : IsOneFault) where
  module _ (ground : Ground) (from : Option ℕ) (text : List ℕ) where
    shared-once : (count other : ℕ) → IsSharedBase ground.ours text count → IsSharedBase ground.ours text other → count ≡ other
    shared-once count other p q =
        one-history_base ground.ours q.entries count other
        (subst (λ (es : List Answered). IsHistoryBase ground.ours es count) (one_history text p.entries q.entries p.stands q.stands) p.base) q.base

    base-once : (kind : Bool) (count other : ℕ) → IsBaseBy kind ground from text count → IsBaseBy kind ground from text other → count ≡ other
    base-once true count other p q = shared-once count other p q
    base-once false count other p q = one-solution_base ground.ours ground.is_resumed from text count other p q

    base-apart : (kind : Bool) (count : ℕ) (fault : BaseFault) → fault ≢ why.NoMemory → IsBaseBy kind ground from text count → IsBaseFaultBy kind ground from text fault → ⊥
    base-apart true count fault some p q =
        history_base-apart ground.ours q.1.entries count
        (subst (λ (es : List Answered). IsHistoryBase ground.ours es count) (one_history text p.entries q.1.entries p.stands q.1.stands) p.base) q.1.later
    base-apart false count fault some p q = solution_base-apart ground.ours ground.is_resumed from text count fault some p q

    base-faults : (kind : Bool) (fault other : BaseFault) → fault ≢ why.NoMemory → other ≢ why.NoMemory → IsBaseFaultBy kind ground from text fault → IsBaseFaultBy kind ground from text other → fault ≡ other
    base-faults true fault other some also p q = p.0 ∙ sym q.0
    base-faults false fault other some also p q = one-solution_fault ground.ours ground.is_resumed from text fault other some also p q

    module _ (number : ℕ) where
      schedule : IsOneText (IsStateOf ground.pit text) (IsStateFault (input.Edit number) ground.pit text)
      schedule = state_text one_history never_bad one_fault (input.Edit number) ground.pit text

      one-edit : (edit other : Edit) → IsEditOf ground from number text edit → IsEditOf ground from number text other → edit ≡ other
      one-edit edit other p q =
          let start : edit.start ≡ other.start = base-once (is_history text) edit.start other.start p.wanted.base q.wanted.base in
          let commits : p.wanted.commits ≡ q.wanted.commits = schedule.values p.wanted.commits q.wanted.commits p.wanted.stands q.wanted.stands in
          same-edit edit other (p.number_is ∙ sym q.number_is) start
          (one-left ground.pit.blocks (take other.start (commits_of ground.ours)) edit.base other.base
          (subst (λ (n : ℕ). AreLeft ground.pit.blocks (take n (commits_of ground.ours)) edit.base) start p.base) q.base)
          (one-left ground.pit.blocks q.wanted.commits edit.wanted other.wanted (subst (λ (cs : List Commit). AreLeft ground.pit.blocks cs edit.wanted) commits p.wanted.left) q.wanted.left)

      -- a fault of its base
      of-base : (fault : CliFault) (cause : BaseFault) → fault ≢ NoMemory → fault ≡ fault_of (input.Edit number) cause → cause ≢ why.NoMemory
      of-base fault cause some is none = some (is ∙ ap (λ (c : BaseFault). fault_of (input.Edit number) c) none)

      edit-apart : (edit : Edit) (fault : CliFault) → fault ≢ NoMemory → IsEditOf ground from number text edit → IsEditFault ground from number text fault → ⊥
      edit-apart edit fault some p (inl q) = schedule.apart p.wanted.commits fault some p.wanted.stands q
      edit-apart edit fault some p (inr q) = base-apart (is_history text) edit.start q.why (of-base fault q.why some q.fault_is) p.wanted.base q.fails

      edit-faults : (fault other : CliFault) → fault ≢ NoMemory → other ≢ NoMemory → IsEditFault ground from number text fault → IsEditFault ground from number text other → fault ≡ other
      edit-faults fault other some also (inl p) (inl q) = schedule.faults fault other some also p q
      edit-faults fault other some also (inl p) (inr q) = absurd (schedule.apart q.commits fault some q.stands p)
      edit-faults fault other some also (inr p) (inl q) = absurd (schedule.apart p.commits other also p.stands q)
      edit-faults fault other some also (inr p) (inr q) =
          p.fault_is
          ∙ (ap (λ (c : BaseFault). fault_of (input.Edit number) c)
          (base-faults (is_history text) p.why q.why (of-base fault p.why some p.fault_is) (of-base other q.why also q.fault_is) p.fails q.fails)
          ∙ sym q.fault_is)

  -- ---- and what is taken of it

  module _ (one_reply : IsOneReply) (options : MergeOptions) (number : ℕ) (text : List ℕ) where
    abbrev IsEditAt : SoFar → Edit → Type 0
    IsEditAt at edit = IsEditOf (ground_at at) options.from number text edit

    taken-once : (given more value other : Merged) → so_far given ≡ so_far more → IsTaken options number text given value → IsTaken options number text more other → so_far value ≡ so_far other
    taken-once given more value other same p q =
        let edit : p.edit ≡ q.edit = one-edit (ground_of more) options.from text number p.edit q.edit (subst (λ (at : SoFar). IsEditAt at p.edit) same p.is_edit) q.is_edit in
        one-lead one_reply options.is_partial q.edit (so_far more) (so_far value) (so_far other)
        (subst (λ (at : SoFar). LeadsOn options.is_partial q.edit at (so_far value)) same
        (subst (λ (e : Edit). LeadsOn options.is_partial e (so_far given) (so_far value)) edit (taken-leads options number text given value p)))
        (taken-leads options number text more other q)

    taken-apart : (given more value : Merged) (fault : CliFault) → fault ≢ NoMemory → so_far given ≡ so_far more → IsTaken options number text given value
        → IsEditFault (ground_of more) options.from number text fault → ⊥
    taken-apart given more value fault some same p q =
        edit-apart (ground_of more) options.from text number p.edit fault some (subst (λ (at : SoFar). IsEditAt at p.edit) same p.is_edit) q

    pub taken-alike : AreAlike IsSeen so_far so_far
        (judge_step (λ given new. IsTaken options number text given new) (λ given fault. IsEditFault (ground_of given) options.from number text fault))
        (judge_step (λ given new. IsTaken options number text given new) (λ given fault. IsEditFault (ground_of given) options.from number text fault))
    taken-alike = record {
      values = taken-once;
      apart = λ given more value fault some same p q. taken-apart given more value fault some same p q;
      parted = λ given more value fault some same p q. taken-apart more given value fault some (sym same) p q;
      faults = λ given more fault other some also same p q.
          edit-faults (ground_of more) options.from text number fault other some also
          (subst (λ (at : SoFar). IsEditFault (ground_at at) options.from number text fault) same p) q;
    }
