-- What is told of a live workspace is that of one closed history.
use Rattle.std.proofs.Common.{◌≡◌, inl, inr, ℕ, zero, suc, ◌+◌, ◌≤◌, ◌<◌, ◌&&◌, Bool, true, false, List, [], ◌∷◌, length, get_or, drop, Result, Ok, Err, refl, sym, ap, subst, ◌∙◌, arith, length-append, add-zero}
use Rattle.std.proofs.lemmas.List.Elements.{All-nil, All-cons, All-head, All-tail, All-contains_itself}
use Rattle.std.specs.Prelude.{All, Some, slice_get}
use mathlib.Core.List.{IsPrefix}
use Rattle.pit_model.specs.Pit.{Pit}
use Rattle.pit_plan.specs.Schedule.{Commit, earned_in, held_period, value_of}
use Rattle.pit_plan.specs.Standing.{IsPlanOf}
use Rattle.pit_plan.specs.declared.short.Short.{Short}
use Rattle.pit_plan.proofs.CallerLemmas.{total-same}
use Rattle.pit_desk.specs.History.{Answered, commits_of}
use Rattle.pit_desk.specs.State.{State, IsDeskKept}
use Rattle.pit_desk.specs.OneThread.{IsOfOneThread}
use Rattle.pit_desk.specs.declared.entry.TheConstants.{ENTRIES_MAX}
use Rattle.pit_desk.proofs.OneThread.{one-thread}
use Rattle.pit_share.specs.Logs.{entries_of, AreLogged}
use Rattle.pit_share.specs.Planners.{PlannerState}
use Rattle.pit_step.specs.Devices.{Writing}
use Rattle.pit_step.specs.declared.fault.CliFault.{CliFault}
use Rattle.pit_step.specs.declared.fault.CliFault.TheVariants.{Stopped}
use Rattle.pit_step.specs.declared.status.Status.{Status}
use Rattle.pit_opening.specs.Openings.{entries_before, IsGoodOpening}
use Rattle.pit_opening.proofs.CallerLemmas.{IsEarly, refusal_early}
use Rattle.pit_live.specs.LiveStarts.{LiveStart}
use Rattle.pit_live.specs.Sat.{AllSat, IsLived}
use Rattle.pit_live.specs.Sittings.{live_end}
use Rattle.pit_live.specs.Live.{Filing, IsTold, IsLiveEnd, IsLiveFault, carried_of, report_of, live_run}
use Rattle.pit_live.specs.LiveHistory.{SatBehind, IsOfOneLive}
use Rattle.pit_live.specs.declared.sitting.Sitting.{Sitting}
use Rattle.pit_live.proofs.Telling.{some_report}

-- ---- each planner's log is what its entries are

abbrev pub IsFrom : ℕ → ℕ → PlannerState → Type 0
IsFrom k n log = (k ≤ log.number) × (log.number < k + n)

numbers : (pit : Pit) (max_entries : ℕ) (opening : List Answered) (k : ℕ) (ls : List PlannerState) (ss : List Sitting) → AllSat pit max_entries opening k ls ss → All (IsFrom k (length ss)) ls
numbers pit max_entries opening k [] [] all = All-nil (IsFrom k 0)
numbers pit max_entries opening k [] (y ∷ ss) all = absurd all
numbers pit max_entries opening k (x ∷ ls) [] all = absurd all
numbers pit max_entries opening k (x ∷ ls) (y ∷ ss) (first, rest) =
    let number = first.number in
    let more = numbers pit max_entries opening (k + 1) ls ss rest in
    All-cons (IsFrom k (length (y ∷ ss))) x ls (omega (arith, number), omega (arith, number))
    (λ i d less. let one = more i d less in (omega (arith, one.0), omega (arith, one.1)))

abbrev pub IsItsLog : List Answered → PlannerState → Type 0
IsItsLog past log = entries_of log.number past ≡ log.items

each-log : (past : List Answered) (planners : ℕ) (ls : List PlannerState) → AreLogged planners past ls → All (IsFrom 1 planners) ls → All (IsItsLog past) ls
each-log past planners ls logged all i d less =
    let one = all i d less in
    (logged.each (get_or ls i d).number (one.0, omega (arith, one.1))).each (get_or ls i d) (All-contains_itself ls i d less) refl

sat-at : (pit : Pit) (opening history : List Answered) (k : ℕ) (ls : List PlannerState) (ss : List Sitting) → AllSat pit ENTRIES_MAX opening k ls ss
    → All (IsItsLog (drop (length opening) history)) ls → All (λ log. IsPrefix log.seen history) ls
    → (p : ℕ) (s : Sitting) → slice_get ss p ≡ Some s → SatBehind pit opening history (k + p) s
sat-at pit opening history k [] [] all logged seen p s at = absurd (cc at)
sat-at pit opening history k [] (y ∷ ss) all logged seen p s at = absurd all
sat-at pit opening history k (x ∷ ls) [] all logged seen p s at = absurd all
sat-at pit opening history k (x ∷ ls) (y ∷ ss) (first, rest) logged seen zero s at =
    let a : y ≡ s = cc at in
    let past = drop (length opening) history in
    let here : entries_of x.number past ≡ x.items = All-head (IsItsLog past) x ls logged in
    rw (add-zero, ← a) (record {
      log = x;
      sat = first;
      own = sym here ∙ ap (λ (n : ℕ). entries_of n past) first.number;
      seen = All-head (λ log. IsPrefix log.seen history) x ls seen;
    })
sat-at pit opening history k (x ∷ ls) (y ∷ ss) (first, rest) logged seen (suc p) s at =
    let number : (k + 1) + p ≡ k + suc p = omega arith in
    subst (λ (n : ℕ). SatBehind pit opening history n s) number
    (sat-at pit opening history (k + 1) ls ss rest (All-tail (IsItsLog (drop (length opening) history)) x ls logged) (All-tail (λ log. IsPrefix log.seen history) x ls seen) p s at)

each-sat : (pit : Pit) (opening : List Answered) (planners : ℕ) (desk : State) (ss : List Sitting) → IsLived pit opening ENTRIES_MAX planners desk ss
    → (p : ℕ) (s : Sitting) → slice_get ss p ≡ Some s → SatBehind pit opening desk.history (1 + p) s
each-sat pit opening planners desk ss lived =
    let past = drop (length opening) desk.history in
    let from = subst (λ (n : ℕ). All (IsFrom 1 n) lived.logs) lived.many (numbers pit ENTRIES_MAX opening 1 lived.logs ss lived.sat) in
    sat-at pit opening desk.history 1 lived.logs ss lived.sat (each-log past planners lived.logs lived.closed.logged from) lived.closed.seen

-- ---- the history

-- a history that a desk keeps is one of one thread
kept-one-thread : (pit : Pit) (desk : State) → IsDeskKept desk → desk.plan.pit ≡ pit → IsOfOneThread pit desk.history (value_of pit (held_period (commits_of desk.history)))
kept-one-thread pit desk kept same =
    let commits : List Commit = commits_of desk.history in
    let stands : IsPlanOf desk.plan commits = kept.follows.stands in
    subst (λ (p : Pit). IsOfOneThread p desk.history (value_of p (held_period commits))) same
    (one-thread desk.plan desk.history (value_of desk.plan.pit (held_period commits)) kept.follows
    (λ others too. total-same (λ b. earned_in desk.plan.pit b (held_period commits b)) (λ b. earned_in desk.plan.pit b (held_period others b)) desk.plan.pit.blocks
    (λ b below. ap (earned_in desk.plan.pit b) (sym (stands.period b below) ∙ too.period b below))))

-- ---- the end

-- it isn't that something couldn't be written
abbrev pub IsWritten : Result Status CliFault → Type 0
IsWritten (Ok status) = Unit {0}
IsWritten (Err Stopped) = Unit {0}
IsWritten (Err other) = ⊥

both-true : (is_filed is_told : Bool) (sittings : List Sitting) (shorts : List Short) (result : Result Status CliFault) → IsWritten result
    → result ≡ live_end (is_filed && is_told) sittings shorts → (is_filed ≡ true) × (is_told ≡ true)
both-true true true sittings shorts result written ended = (refl, refl)
both-true true false sittings shorts result written ended = absurd (subst IsWritten ended written)
both-true false is_told sittings shorts result written ended = absurd (subst IsWritten ended written)

was_told : (lines : Writing) (text : List ℕ) (is_told : Bool) → is_told ≡ true → IsTold lines text is_told → IsTold lines text true
was_told lines text is_told is told = subst (λ (b : Bool). IsTold lines text b) is told

of_one : (start : LiveStart) (planners : ℕ) (file : Filing) (lines : Writing) (result : Result Status CliFault) → IsWritten result → IsGoodOpening start.pit start.opening
    → IsLiveEnd (carried_of start planners) file.after lines result → IsOfOneLive start planners file lines
of_one start planners file lines result written good end =
    let lived = end.lived in
    let closed = end.has.sat.closed in
    let both = both-true lived.is_filed end.is_told lived.sittings _ result written end.ended in
    let told = was_told lines _ end.is_told both.1 end.told in
    let some = some_report start.pit (commits_of lived.desk.history) lived.sittings in
    let notices = (carried_of start planners).notices in
    record {
      lived = lived;
      good_opening = good;
      goes_on = closed.goes_on;
      one_thread = kept-one-thread start.pit lived.desk closed.kept closed.goes_on.same_pit;
      many = end.has.sat.many;
      each = each-sat start.pit (entries_before start.opening) planners lived.desk lived.sittings end.has.sat;
      filed = end.has.filed both.0;
      told = told.0;
      sound = told.1 (omega (arith, length-append notices (report_of (carried_of start planners) lived), some));
    }

pub answered : (start : LiveStart) (planners : ℕ) (file : Filing) (lines : Writing) (status : Status) → (live_run start planners file lines).Gives tt status → IsOfOneLive start planners file lines
answered start planners file lines status (between, good, end) = of_one start planners file lines (Ok status) tt good end

never_early : IsEarly Stopped → ⊥
never_early (inl p) = cc p
never_early (inr p) = cc p

stopped_by : (start : LiveStart) (planners : ℕ) (file : Filing) (lines : Writing) → IsGoodOpening start.pit start.opening → IsLiveFault (carried_of start planners) file lines Stopped
    → IsOfOneLive start planners file lines
stopped_by start planners file lines good (inl (inl (inl p, same), left)) = absurd (cc p)
stopped_by start planners file lines good (inl (inl (inr p, same), left)) = absurd (cc p)
stopped_by start planners file lines good (inl (inr p, left)) = absurd p
stopped_by start planners file lines good (inr (inl untold)) = absurd untold.why
stopped_by start planners file lines good (inr (inr end)) = of_one start planners file lines (Err Stopped) tt good end

pub stopped : (start : LiveStart) (planners : ℕ) (file : Filing) (lines : Writing) → (live_run start planners file lines).Fails tt Stopped → IsOfOneLive start planners file lines
stopped start planners file lines (inl (refused, left)) = absurd (never_early (refusal_early start.pit start.opening Stopped refused))
stopped start planners file lines (inr (between, good, fails)) = stopped_by start planners file lines good fails
