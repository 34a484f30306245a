-- The run of `merge` has one outcome, and the same on the same bytes.
use Rattle.std.proofs.Common.{◌≡◌, ◌≢◌, ◌⊎◌, inl, inr, ℕ, Bool, true, false, List, [], ◌∷◌, ◌++◌, get_or, drop, map, All, Option, Some, None, IsSome, Result, Ok, Err, refl, sym, ap, ◌∙◌, true≢false}
use Rattle.std.proofs.lemmas.List.Elements.{All-head, All-tail}
use Rattle.pit_model.specs.Pit.{Pit}
use Rattle.pit_desk.specs.History.{commits_of}
use Rattle.pit_desk.specs.State.{IsDeskKept}
use Rattle.pit_lines.specs.Texts.{history_text}
use Rattle.pit_file.specs.OutputState.{OutputState, HasKept, HasNotKept}
use Rattle.pit_file.specs.OutputState.OutputState.{stream, file}
use Rattle.pit_step.specs.declared.fault.CliFault.{CliFault}
use Rattle.pit_step.specs.declared.fault.CliFault.TheVariants.{NoMemory, CannotWrite}
use Rattle.pit_step.specs.declared.input.Input.TheVariants as input
use Rattle.pit_step.specs.declared.status.Status.{Status}
use Rattle.pit_step.specs.declared.status.Status.TheVariants.{Fine}
use Rattle.pit_step.specs.LineTexts.{left_text}
use Rattle.pit_step.specs.Statuses.{fault_status}
use Rattle.pit_step.specs.Steps.{Step, in_turn, may_step, run_step, through, HasOneOutcome}
use Rattle.pit_step.specs.Devices.{Reading, Writing, write_step}
use Rattle.pit_step.proofs.CallerLemmas.{IsDetermined, IsSeen, IsOfInputs, IsOneHistory, IsNeverBad, IsOneFault, never_two, inputs-seen, in_turn-determined, may-decided, write-determined}
use Rattle.pit_opening.specs.Openings.{Opened, is_resumed, entries_before, IsGoodOpening, IsDeskFault}
use Rattle.pit_opening.proofs.CallerLemmas.{refusal_early}
use Rattle.pit_output.specs.Outputs.{new_line, Keeping, keep_step, Outputs, streams_step, end_step, outputs_run, IsUnwritten}
use Rattle.pit_output.proofs.CallerLemmas.{shown, outputs_given, outputs_failed, outputs_left}
use Rattle.pit_merge.specs.declared.options.MergeOptions.{MergeOptions}
use Rattle.pit_merge.specs.Prepared.{Prepared}
use Rattle.pit_merge.specs.Edits.{Merged, ground_of, IsTaken, IsEditFault, edit_step}
use Rattle.pit_merge.specs.Merge.{IsBegun, IsNoDesk, desk_step, merge_report, merge_outputs, merge_status, merged_run, kept_step, merge_run}
use Rattle.pit_merge.specs.MergedHistory.{IsOfOneMerge}
use Rattle.pit_merge.specs.EndAlike.{EndAlike}
use Rattle.pit_merge.proofs.Readings.{AreReadAlike, IsTold, bytes_of, read-itself, read-again}
use Rattle.pit_merge.proofs.Alike.{AreAlike, AreEach, fewer-alike, determined-alike, in_turn-alike, pass-alike, run-alike, through-alike, input-alike}
use Rattle.pit_merge.proofs.Ends.{alike-ends}
use Rattle.pit_merge.proofs.OneEdit.{SoFar, so_far, same-so_far, IsOneReply, taken-alike}
use Rattle.pit_merge.proofs.OneMerge.{some-report, written-merge}

-- ---- the desk, by a law of openings

abbrev pub IsNeverRefused : Type 0
IsNeverRefused = (pit : Pit) (opening : Opened) (fault : CliFault) → IsOfInputs fault → IsGoodOpening pit opening → IsDeskFault pit opening fault → ⊥

abbrev pub IsOneRefusal : Type 0
IsOneRefusal =
    (pit : Pit) (opening : Opened) (fault other : CliFault) → IsOfInputs fault → IsOfInputs other → IsDeskFault pit opening fault → IsDeskFault pit opening other → fault ≡ other

abbrev at_first : Prepared → SoFar
at_first begun = record {
  pit = begun.pit;
  history = entries_before begun.opening;
  ours = entries_before begun.opening;
  is_resumed = is_resumed begun.opening;
  lines = [];
  is_whole = true;
}

module _ (begun : Prepared) where
  pub begun-first : (merged : Merged) → IsBegun begun merged → so_far merged ≡ at_first begun
  begun-first merged is = same-so_far (so_far merged) (at_first begun) is.opened.same_pit is.opened.history is.ours is.resumed_is is.lines is.whole

  no-desk : (fault : CliFault) → fault ≢ NoMemory → IsNoDesk begun fault → IsDeskFault begun.pit begun.opening fault
  no-desk fault some (inl p) = p
  no-desk fault some (inr p) = absurd (some p.1)

  of-inputs : (fault : CliFault) → fault ≢ NoMemory → IsDeskFault begun.pit begun.opening fault → IsOfInputs fault
  of-inputs fault some p = elim (refusal_early begun.pit begun.opening fault p) [ inl is ↦ is | inr none ↦ absurd (some none) ]

  module _ (never_refused : IsNeverRefused) (one_refusal : IsOneRefusal) where
    desk-apart : (merged : Merged) (fault : CliFault) → fault ≢ NoMemory → IsBegun begun merged → IsNoDesk begun fault → ⊥
    desk-apart merged fault some p q =
        let refused = no-desk fault some q in
        never_refused begun.pit begun.opening fault (of-inputs fault some refused) p.opened.is_good refused

    desk-faults : (fault other : CliFault) → fault ≢ NoMemory → other ≢ NoMemory → IsNoDesk begun fault → IsNoDesk begun other → fault ≡ other
    desk-faults fault other some also p q =
        let one = no-desk fault some p in
        let more = no-desk other also q in
        one_refusal begun.pit begun.opening fault other (of-inputs fault some one) (of-inputs other also more) one more

    desk-alike : AreAlike IsSeen (λ (given : Unit {0}). given) so_far (desk_step begun) (desk_step begun)
    desk-alike = record {
      values = λ given more value other same p q. begun-first value p ∙ sym (begun-first other q);
      apart = λ given more value fault some same p q. desk-apart value fault some p q;
      parted = λ given more value fault some same p q. desk-apart value fault some p q;
      faults = λ given more fault other some also same p q. desk-faults fault other some also p q;
    }

-- ---- the edits

-- each is read alike, as an edit of any number
abbrev pub AreEditsAlike : (CliFault → Type 0) → List Reading → List Reading → Type 0
AreEditsAlike Due edits others = AreEach (λ source again. (number : ℕ) → AreReadAlike Due (input.Edit number) source again) edits others

pub edits-themselves : (edits : List Reading) → All IsTold edits → AreEditsAlike IsSeen edits edits
edits-themselves [] told = tt
edits-themselves (source ∷ edits) told =
    (λ number. read-itself (input.Edit number) source (All-head IsTold source edits told), edits-themselves edits (All-tail IsTold source edits told))

pub edits-again : (edits others : List Reading) → All IsTold edits → map bytes_of others ≡ map bytes_of edits → AreEditsAlike IsOfInputs edits others
edits-again [] [] told same = tt
edits-again [] (again ∷ others) told same = absurd (cc)
edits-again (source ∷ edits) [] told same = absurd (cc)
edits-again (source ∷ edits) (again ∷ others) told same = (
  λ number. read-again (input.Edit number) source again (All-head IsTold source edits told) (ap (λ (sources : List (Option (List ℕ))). get_or sources 0 None) same),
  edits-again edits others (All-tail IsTold source edits told) (ap (λ (sources : List (Option (List ℕ))). drop 1 sources) same),
)

module _ (options : MergeOptions) (one_history : IsOneHistory) (never_bad : IsNeverBad) (one_fault : IsOneFault) (one_reply : IsOneReply) (Due : CliFault → Type 0)
    (seen : (fault : CliFault) → Due fault → IsSeen fault) where
  edit-alike : (number : ℕ) (source again : Reading) → ((k : ℕ) → AreReadAlike Due (input.Edit k) source again)
      → AreAlike Due so_far so_far (edit_step options number source) (edit_step options number again)
  edit-alike number source again read =
      input-alike Due seen so_far so_far (input.Edit number) source again (λ (given : Merged) (text : List ℕ) (new : Merged). IsTaken options number text given new)
      (λ (given : Merged) (text : List ℕ) (fault : CliFault). IsEditFault (ground_of given) options.from number text fault) (read number)
      (λ text. taken-alike one_history never_bad one_fault one_reply options number text)

  pub edits-alike : (edits others : List Reading) → AreEditsAlike Due edits others → AreAlike Due so_far so_far (through (edit_step options) 1 edits) (through (edit_step options) 1 others)
  edits-alike edits others are = through-alike Due so_far (edit_step options) (λ source again. (k : ℕ) → AreReadAlike Due (input.Edit k) source again) edit-alike 1 edits others are

-- ---- the outputs

kept-apart : (text : List ℕ) (before after : OutputState) → HasKept text before after → HasNotKept text before after → ⊥
kept-apart text (stream held had) (stream holds failed) p q = true≢false (sym q.1 ∙ p.1 q.2)
kept-apart text (file stood had) (file stands failed) p q = true≢false (sym q.1 ∙ p.1)
kept-apart text (stream held had) (file stands failed) p q = p
kept-apart text (file stood had) (stream holds failed) p q = p

keep-determined : (kept : Option Keeping) (text : List ℕ) (given : Unit {0}) → IsDetermined IsSeen (keep_step kept text) given
keep-determined None text given = record {
  values = λ value other p q. p ∙ sym q;
  apart = λ value fault some p q. q;
  faults = λ fault other some also p q. absurd p;
}
keep-determined (Some device) text given = record {
  values = λ value other p q. p.0 ∙ sym q.0;
  apart = λ value fault some p q. kept-apart text device.before device.after p.1 q.1;
  faults = λ fault other some also p q. p.0 ∙ sym q.0;
}

abbrev status_in : Result Status CliFault → Status
status_in (Ok status) = status
status_in (Err fault) = Fine

seen-device : (fault : CliFault) → fault ≡ CannotWrite → fault ≢ NoMemory
seen-device fault is none = apart (sym is ∙ none)
  where
    apart : CannotWrite ≡ NoMemory → ⊥
    apart same = cc

fine-or-not : (status : Status) (fault : CliFault) → ◌≡◌ {A = Result Status CliFault} (Ok status) (Err fault) → ⊥
fine-or-not status fault is = cc

end-determined : (status : Status) (given : Unit {0}) → IsDetermined IsSeen (end_step (Ok status)) given
end-determined status given = record {
  values = λ value other p q. ap status_in (sym p ∙ q);
  apart = λ value fault some p q. fine-or-not status fault q;
  faults = λ fault other some also p q. absurd (fine-or-not status fault p);
}

module _ (out lines : Writing) (kept : Option Keeping) (texts : Outputs) (status : Status) where
  both-determined : (given : Unit {0}) → IsDetermined IsSeen (streams_step texts out lines) given
  both-determined given =
      in_turn-determined IsSeen (write_step out (λ _. texts.solution) (λ _. tt {0})) (write_step lines (λ _. texts.report) (λ _. tt {0})) given
      (write-determined out (λ _. texts.solution) (λ _. tt {0}) given) (λ (between : Unit {0}). write-determined lines (λ _. texts.report) (λ _. tt {0}) between)

  outputs-determined : (is_first : Bool) (given : Unit {0}) → IsDetermined IsSeen (outputs_run is_first texts (Ok status) out lines kept) given
  outputs-determined true given =
      in_turn-determined IsSeen (keep_step kept texts.history) (in_turn (streams_step texts out lines) (end_step (Ok status))) given (keep-determined kept texts.history given)
      (λ (between : Unit {0}). in_turn-determined IsSeen (streams_step texts out lines) (end_step (Ok status)) between (both-determined between) (end-determined status))
  outputs-determined false given =
      in_turn-determined IsSeen (streams_step texts out lines) (in_turn (keep_step kept texts.history) (end_step (Ok status))) given (both-determined given)
      (λ (between : Unit {0}). in_turn-determined IsSeen (keep_step kept texts.history) (end_step (Ok status)) between (keep-determined kept texts.history between) (end-determined status))

-- by what matters of where the merge stands
abbrev pub outputs_at : Bool → SoFar → Outputs
outputs_at is_new at = record {
  solution = left_text at.pit (commits_of at.history);
  report = new_line is_new ++ merge_report at.pit (commits_of at.history) at.lines;
  history = history_text at.history;
}

abbrev written_at : Prepared → Writing → Writing → Option Keeping → SoFar → Step CliFault (Unit {0}) Status
written_at begun out lines kept at =
    in_turn (may_step NoMemory) (outputs_run begun.is_carried_on (outputs_at begun.is_new at) (Ok (merge_status at.is_whole)) out lines kept)

module _ (begun : Prepared) (out lines : Writing) (kept : Option Keeping) where
  abbrev ended_at : SoFar → Result Status CliFault
  ended_at at = Ok (merge_status at.is_whole)

  written-fails : (at : SoFar) (fault : CliFault) → (written_at begun out lines kept at).Fails tt fault → (fault ≡ CannotWrite) ⊎ ((fault ≡ NoMemory) × IsUnwritten out lines kept)
  written-fails at fault (inl (p, left)) = inr (p, outputs_left out lines kept (outputs_at begun.is_new at) (ended_at at) begun.is_carried_on left)
  written-fails at fault (inr (given, may, p)) =
      elim (outputs_failed out lines kept (outputs_at begun.is_new at) (ended_at at) begun.is_carried_on fault p) [
        | inl failed ↦ inl failed.0
        | inr ended ↦ absurd (fine-or-not (merge_status at.is_whole) fault ended.0)
      ]

  -- it is no fault of the inputs
  written-late : (at : SoFar) (fault : CliFault) → IsOfInputs fault → (written_at begun out lines kept at).Fails tt fault → ⊥
  written-late at fault due p =
      elim (written-fails at fault p) [
        | inl is ↦ never_two (sym (ap fault_status is) ∙ due)
        | inr none ↦ never_two (sym (ap fault_status none.0) ∙ due)
      ]

  written-status : (at : SoFar) (status : Status) → (written_at begun out lines kept at).Gives tt status → status ≡ merge_status at.is_whole
  written-status at status (given, may, p) = sym (ap status_in (outputs_given out lines kept (outputs_at begun.is_new at) (ended_at at) begun.is_carried_on status p).0)

  written-determined : (at : SoFar) (given : Unit {0}) → IsDetermined IsSeen (written_at begun out lines kept at) given
  written-determined at given =
      in_turn-determined IsSeen (may_step NoMemory) (outputs_run begun.is_carried_on (outputs_at begun.is_new at) (ended_at at) out lines kept) given
      (may-decided IsSeen NoMemory given (λ due. due refl)).once (outputs-determined out lines kept (outputs_at begun.is_new at) (merge_status at.is_whole) begun.is_carried_on)

-- to other devices
written-alike : (begun : Prepared) (out lines : Writing) (kept : Option Keeping) (other_out other_lines : Writing) (other_kept : Option Keeping) (at : SoFar)
    → AreAlike {K = Unit {0}} {L = Status} IsOfInputs (λ given. given) (λ value. value) (written_at begun out lines kept at) (written_at begun other_out other_lines other_kept at)
written-alike begun out lines kept other_out other_lines other_kept at = record {
  values = λ given more value other same p q. written-status begun out lines kept at value p ∙ sym (written-status begun other_out other_lines other_kept at other q);
  apart = λ given more value fault due same p q. written-late begun other_out other_lines other_kept at fault due q;
  parted = λ given more value fault due same p q. written-late begun out lines kept at fault due q;
  faults = λ given more fault other due also same p q. absurd (written-late begun out lines kept at fault due p);
}

-- ---- the run

abbrev last_of : Prepared → Writing → Writing → Option Keeping → Step CliFault Merged Status
last_of begun out lines kept = in_turn kept_step (run_step (merged_run begun out lines kept) (IsUnwritten out lines kept))

last-alike : (Due : CliFault → Type 0) (begun : Prepared) (out lines : Writing) (kept : Option Keeping) (other_out other_lines : Writing) (other_kept : Option Keeping)
    → ((at : SoFar) → AreAlike {K = Unit {0}} {L = Status} Due (λ given. given) (λ value. value) (written_at begun out lines kept at) (written_at begun other_out other_lines other_kept at))
    → AreAlike Due so_far (λ (status : Status). status) (last_of begun out lines kept) (last_of begun other_out other_lines other_kept)
last-alike Due begun out lines kept other_out other_lines other_kept one =
    in_turn-alike Due so_far so_far (λ (status : Status). status) kept_step kept_step (run_step (merged_run begun out lines kept) (IsUnwritten out lines kept))
    (run_step (merged_run begun other_out other_lines other_kept) (IsUnwritten other_out other_lines other_kept))
    (pass-alike Due so_far (λ (merged : Merged). IsDeskKept merged.merging.desk) (λ (merged : Merged) (fault : CliFault). ⊥) (λ given fault p. p))
    (run-alike Due so_far (written_at begun out lines kept) (written_at begun other_out other_lines other_kept) (IsUnwritten out lines kept) (IsUnwritten other_out other_lines other_kept) one)

module _ (options : MergeOptions) (begun : Prepared) (one_history : IsOneHistory) (never_bad : IsNeverBad) (one_fault : IsOneFault) (one_reply : IsOneReply) (never_refused : IsNeverRefused)
    (one_refusal : IsOneRefusal) where
  merge-alike : (Due : CliFault → Type 0) (seen : (fault : CliFault) → Due fault → IsSeen fault) (edits others : List Reading) (out lines : Writing) (kept : Option Keeping)
      (other_out other_lines : Writing) (other_kept : Option Keeping) → AreEditsAlike Due edits others
      → ((at : SoFar) → AreAlike {K = Unit {0}} {L = Status} Due (λ given. given) (λ value. value) (written_at begun out lines kept at) (written_at begun other_out other_lines other_kept at))
      → AreAlike {K = Unit {0}} {L = Status} Due (λ given. given) (λ value. value) (merge_run options begun edits out lines kept) (merge_run options begun others other_out other_lines other_kept)
  merge-alike Due seen edits others out lines kept other_out other_lines other_kept are one =
      in_turn-alike Due (λ (given : Unit {0}). given) so_far (λ (status : Status). status) (desk_step begun) (desk_step begun)
      (in_turn (through (edit_step options) 1 edits) (last_of begun out lines kept)) (in_turn (through (edit_step options) 1 others) (last_of begun other_out other_lines other_kept))
      (fewer-alike IsSeen Due (λ (given : Unit {0}). given) so_far (desk_step begun) (desk_step begun) seen (desk-alike begun never_refused one_refusal))
      (in_turn-alike Due so_far so_far (λ (status : Status). status) (through (edit_step options) 1 edits) (through (edit_step options) 1 others) (last_of begun out lines kept)
      (last_of begun other_out other_lines other_kept) (edits-alike options one_history never_bad one_fault one_reply Due seen edits others are)
      (last-alike Due begun out lines kept other_out other_lines other_kept one))

  module _ (edits : List Reading) (out lines : Writing) (kept : Option Keeping) (told : All IsTold edits) where
    merge-itself : AreAlike {K = Unit {0}} {L = Status} IsSeen (λ given. given) (λ value. value) (merge_run options begun edits out lines kept) (merge_run options begun edits out lines kept)
    merge-itself =
        merge-alike IsSeen (λ fault is. is) edits edits out lines kept out lines kept (edits-themselves edits told)
        (λ at. determined-alike IsSeen (written_at begun out lines kept at) (written-determined begun out lines kept at))

    -- a device fails, or nothing is written
    failed-so : (fault : CliFault) → (merge_run options begun edits out lines kept).Fails tt fault → (fault ≡ CannotWrite) ⊎ IsUnwritten out lines kept
    failed-so fault (inl (p, left)) = inr left.1.1
    failed-so fault (inr (start, opened, inl (p, left))) = inr left.1
    failed-so fault (inr (start, opened, inr (merged, taken, inl (p, left)))) = absurd p
    failed-so fault (inr (start, opened, inr (merged, taken, inr (same, passed, p)))) =
        elim (written-fails begun out lines kept (so_far same) fault p) [ inl is ↦ inl is | inr none ↦ inr none.1 ]

    -- an answer shows at the device of the report
    never-unwritten : (status : Status) → IsSome lines.before → (merge_run options begun edits out lines kept).Gives tt status → IsUnwritten out lines kept → ⊥
    never-unwritten status told_lines p unwritten =
        let is = written-merge options begun edits out lines kept status p in
        shown lines (merge_outputs begun.is_new is.merged).report told_lines
        (some-report begun.is_new is.merged.merging.desk.plan.pit (commits_of is.merged.merging.desk.history) is.merged.merging.lines) is.report is.sound unwritten.1

    pub merge-outcome : IsSome lines.before → HasOneOutcome NoMemory (merge_run options begun edits out lines kept)
    merge-outcome told_lines = record {
      values = λ status other p q. merge-itself.values tt tt status other refl p q;
      apart = λ status fault p q.
          elim (failed-so fault q) [
            | inl is ↦ merge-itself.apart tt tt status fault (seen-device fault is) refl p q
            | inr unwritten ↦ never-unwritten status told_lines p unwritten
          ];
      faults = λ fault other some also p q. merge-itself.faults tt tt fault other some also refl p q;
    }

    -- ---- once more

    module _ (others : List Reading) (other_out other_lines : Writing) (other_kept : Option Keeping) (same : map bytes_of others ≡ map bytes_of edits) where
      pub merge-again : EndAlike (merge_run options begun edits out lines kept) (merge_run options begun others other_out other_lines other_kept)
      merge-again =
          alike-ends (merge_run options begun edits out lines kept) (merge_run options begun others other_out other_lines other_kept)
          (merge-alike IsOfInputs inputs-seen edits others out lines kept other_out other_lines other_kept (edits-again edits others told same)
          (written-alike begun out lines kept other_out other_lines other_kept))

      pub same-outputs : (status other : Status) (p : IsOfOneMerge options begun edits out lines kept status) (q : IsOfOneMerge options begun others other_out other_lines other_kept other)
          → merge_outputs begun.is_new p.merged ≡ merge_outputs begun.is_new q.merged
      same-outputs status other p q =
          let last : so_far p.merged ≡ so_far q.merged
          = (edits-alike options one_history never_bad one_fault one_reply IsOfInputs inputs-seen edits others (edits-again edits others told same)).values p.start q.start p.merged q.merged
          (begun-first begun p.start p.opened ∙ sym (begun-first begun q.start q.opened)) p.taken q.taken in
          ap (λ (at : SoFar). outputs_at begun.is_new at) last
