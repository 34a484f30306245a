-- What an edit wants, and what it was made from, by what its text stands for.
use Rattle.std.proofs.Common.{◌≡◌, ℕ, ◌≤◌, Bool, true, false, inl, inr, List, length, Option, refl, sym, subst}
use Rattle.pit_desk.specs.History.{Answered, commits_of}
use Rattle.pit_lines.specs.Lines.{StandsForHistory}
use Rattle.pit_step.specs.declared.input.Input.TheVariants as input
use Rattle.pit_step.specs.declared.fault.CliFault.{CliFault}
use Rattle.pit_step.specs.declared.fault.CliFault.TheVariants.{NoMemory}
use Rattle.pit_step.specs.Inputs.{IsSolutionOf, IsSolutionFault, IsHistoryFault}
use Rattle.pit_state.specs.States.{is_history, commits_of_schedule, EachFits, IsStateOf, IsStateFault}
use Rattle.pit_state.proofs.CallerLemmas.{state-stop, history-state, history-unfit, history-bad, solution-state, solution-bad, solution-wants}
use Rattle.pit_base.specs.declared.error.BaseFault.TheVariants.{RevisedLimit}
use Rattle.pit_base.proofs.CallerLemmas.{history-there, solution-there}
use Rattle.pit_merge.specs.Edits.{Ground, IsBaseBy, IsBaseFaultBy, IsWanted, IsEditFault}
use Rattle.pit_merge.specs.Inside.Parts.{IsByEntries, IsEntriesFault, IsBySchedule, IsScheduleFault}

module _ (ground : Ground) (from : Option ℕ) (number : ℕ) (text : List ℕ) where
  -- ---- a history

  module _ (entries : List Answered) (kind : is_history text ≡ true) (stands : StandsForHistory text entries) where
    entries-stand : EachFits ground.pit entries → IsStateOf ground.pit text (commits_of entries)
    entries-stand fits = history-state ground.pit text (commits_of entries) kind (record { entries = entries; stands = stands; fits = fits; are = refl })

    pub entries-wanted : (start : ℕ) (wanted : List (Option ℕ)) → IsByEntries ground entries start wanted → IsWanted ground from text start wanted
    entries-wanted start wanted is = record {
      commits = commits_of entries;
      stands = entries-stand is.fits;
      left = is.left;
      base = subst (λ (k : Bool). IsBaseBy k ground from text start) (sym kind) (record { entries = entries; stands = stands; base = is.base });
    }

    pub entries-fault : (fault : CliFault) → IsEntriesFault ground (input.Edit number) entries fault → IsEditFault ground from number text fault
    entries-fault fault (inl unfit) = inl (history-unfit (input.Edit number) ground.pit text entries fault kind stands unfit)
    entries-fault fault (inr (fits, later, is)) =
        inr (record {
          commits = commits_of entries;
          stands = entries-stand fits;
          why = RevisedLimit;
          fails = subst (λ (k : Bool). IsBaseFaultBy k ground from text RevisedLimit) (sym kind) (refl, record { entries = entries; stands = stands; later = later });
          fault_is = is;
        })

  pub history-unread : (fault : CliFault) → is_history text ≡ true → IsHistoryFault (input.Edit number) text fault → IsEditFault ground from number text fault
  history-unread fault kind is = inl (history-bad (input.Edit number) ground.pit text fault kind is)

  -- ---- a solution

  module _ (schedule : List (ℕ × ℕ)) (kind : is_history text ≡ false) (stands : IsSolutionOf ground.pit text schedule) where
    schedule-stands : IsStateOf ground.pit text (commits_of_schedule schedule)
    schedule-stands = solution-state ground.pit text (commits_of_schedule schedule) kind (record { schedule = schedule; stands = stands; are = refl })

    pub schedule-wanted : (start : ℕ) (wanted : List (Option ℕ)) → IsBySchedule ground from schedule text start wanted → IsWanted ground from text start wanted
    schedule-wanted start wanted is = record {
      commits = commits_of_schedule schedule;
      stands = schedule-stands;
      left = is.left;
      base = subst (λ (k : Bool). IsBaseBy k ground from text start) (sym kind) is.base;
    }

    pub schedule-fault : (fault : CliFault) → IsScheduleFault ground from (input.Edit number) text fault → IsEditFault ground from number text fault
    schedule-fault fault (inl is) = inl (solution-wants (input.Edit number) ground.pit text schedule fault kind stands is)
    schedule-fault fault (inr (why, fails, is)) =
        inr (record {
          commits = commits_of_schedule schedule;
          stands = schedule-stands;
          why = why;
          fails = subst (λ (k : Bool). IsBaseFaultBy k ground from text why) (sym kind) fails;
          fault_is = is;
        })

  pub solution-unread : (fault : CliFault) → is_history text ≡ false → IsSolutionFault (input.Edit number) ground.pit text fault → IsEditFault ground from number text fault
  solution-unread fault kind is = inl (solution-bad (input.Edit number) ground.pit text fault kind is)

  -- ---- either

  -- memory runs out behind its text
  pub wants : (start : ℕ) (wanted : List (Option ℕ)) (fault : CliFault) → IsWanted ground from text start wanted → fault ≡ NoMemory → IsEditFault ground from number text fault
  wants start wanted fault is none =
      inl (subst (λ (f : CliFault). IsStateFault (input.Edit number) ground.pit text f) (sym none) (state-stop (input.Edit number) ground.pit text is.commits is.stands))

-- it was made from no more commits than there are
base-there : (kind : Bool) (ground : Ground) (from : Option ℕ) (text : List ℕ) (start : ℕ) → IsBaseBy kind ground from text start → start ≤ length (commits_of ground.ours)
base-there true ground from text start is = history-there ground.ours is.entries start is.base
base-there false ground from text start is = solution-there ground.ours ground.is_resumed from text start is

pub wanted-there : (ground : Ground) (from : Option ℕ) (text : List ℕ) (start : ℕ) (wanted : List (Option ℕ)) → IsWanted ground from text start wanted → start ≤ length (commits_of ground.ours)
wanted-there ground from text start wanted is = base-there (is_history text) ground from text start is.base
