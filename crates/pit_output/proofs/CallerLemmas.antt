-- For the crates above: the solution that a desk's commits leave, by the periods of its plan; and what is known of outputs that were left alone, and of such as were written.
use Rattle.std.proofs.Common.{◌≡◌, ◌⊎◌, inl, inr, ℕ, ◌<◌, Bool, true, false, List, length, Option, Some, None, IsSome, is_some, Result, Ok, Err, refl, ap, sym, subst, ◌∙◌}
use Rattle.std.proofs.lemmas.Bool.{false≢true}
use Rattle.std.proofs.lemmas.List.{append_cancel_left}
use Rattle.std.specs.Io.KnownBytes.{Appends, Keeps}
use Rattle.pit_file.specs.OutputState.{OutputState, IsAsBefore, HasNotKept}
use Rattle.pit_file.specs.OutputState.OutputState.{stream, file}
use Rattle.pit_step.specs.Devices.{Writing, known_if}
use Rattle.pit_step.specs.Steps.{IsResultOf}
use Rattle.pit_step.specs.declared.status.Status.{Status}
use Rattle.pit_step.specs.declared.status.Status.TheVariants.{Fine}
use Rattle.pit_step.specs.declared.fault.CliFault.{CliFault}
use Rattle.pit_step.specs.declared.fault.CliFault.TheVariants as cli
use Rattle.pit_step.proofs.CallerLemmas.{keeps_itself, left_text-of_periods, write-shown}
use Rattle.pit_plan.specs.Schedule.{by_block}
use Rattle.pit_plan.specs.Standing.{Standing, IsPlanOf}
use Rattle.pit_text.specs.Solution.{schedule_of}
use Rattle.pit_text.specs.SolutionText.{solution_text}
use Rattle.pit_desk.specs.History.{commits_of}
use Rattle.pit_desk.specs.State.{State, IsDeskKept}
use Rattle.pit_step.specs.LineTexts.{left_text}
use Rattle.pit_output.specs.Outputs.{Keeping, keeping_of, HasWhole, IsLeft, keep_step, Outputs, streams_step, outputs_run, IsUnwritten, has_failed, has_failed_if, HasFailed}

-- of a desk's plan, as it is found
pub left_as : (closed desk : State) (plan : Standing) (periods : List (Option ℕ)) → desk ≡ closed → plan ≡ desk.plan → IsDeskKept desk → periods ≡ plan.periods → length periods ≡ plan.pit.blocks
    → solution_text (schedule_of (length periods) (by_block periods)) ≡ left_text closed.plan.pit (commits_of closed.history)
left_as closed desk plan periods is at kept same count =
    left_text-of_periods plan periods (commits_of desk.history) same count (subst (λ (p : Standing). IsPlanOf p (commits_of desk.history)) (sym at) kept.follows.stands)
    ∙ ap (λ (p : Standing). left_text p.pit (commits_of desk.history)) at
    ∙ ap (λ (d : State). left_text d.plan.pit (commits_of d.history)) is

-- where nothing was called, an output was left alone
as_itself : (output : OutputState) → IsAsBefore output output
as_itself (stream held failed) = keeps_itself held
as_itself (file stood failed) = refl

pub left_itself : {S : Type 0} (state : S → OutputState) (output : Option S) → IsLeft (known_if (λ old new. keeping_of (state old) (state new)) output output)
left_itself state None = tt
left_itself state (Some output) = as_itself (state output)

-- the same as a step leaves it
pub if_itself : {S : Type 0} (state : S → OutputState) (output : Option S) (text : List ℕ)
    → (keep_step (known_if (λ old new. keeping_of (state old) (state new)) output output) text).IsUntouched
if_itself state None text = tt
if_itself state (Some output) text = as_itself (state output)

-- an output that is known of was there before
pub was_there : {S : Type 0} (of : S → S → Keeping) (old new : Option S) → is_some (known_if of old new) ≡ true → is_some old ≡ true
was_there of (Some old) new h = refl
was_there of None new h = cc

-- of another history the same is written where no device was there for it
other_history : (is_first : Bool) (out lines : Writing) (kept : Option Keeping) (texts : Outputs) (history : List ℕ) (ended result : Result Status CliFault) → (is_some kept ≡ true → texts.history ≡ history)
    → IsResultOf (outputs_run is_first texts ended out lines kept) tt result → IsResultOf (outputs_run is_first (record texts { history = history }) ended out lines kept) tt result
other_history true out lines None texts history ended (Ok status) same is = is
other_history true out lines None texts history ended (Err fault) same is = is
other_history false out lines None texts history ended (Ok status) same is = is
other_history false out lines None texts history ended (Err fault) same is = is
other_history is_first out lines (Some output) texts history ended result same is =
    subst (λ (h : List ℕ). IsResultOf (outputs_run is_first (record texts { history = h }) ended out lines (Some output)) tt result) (same refl) is

pub written_as : (first is_first : Bool) (out lines : Writing) (kept : Option Keeping) (texts other : Outputs) (ended ended2 result : Result Status CliFault) → first ≡ is_first
    → texts.solution ≡ other.solution → texts.report ≡ other.report → (is_some kept ≡ true → texts.history ≡ other.history) → ended ≡ ended2
    → IsResultOf (outputs_run first texts ended out lines kept) tt result → IsResultOf (outputs_run is_first other ended2 out lines kept) tt result
written_as first is_first out lines kept texts other ended ended2 result same a b c d written =
    subst (λ (f : Bool). IsResultOf (outputs_run f other ended2 out lines kept) tt result) same
    (subst (λ (s : List ℕ). IsResultOf (outputs_run first (record { solution = s; report = other.report; history = other.history }) ended2 out lines kept) tt result) a
    (subst (λ (r : List ℕ). IsResultOf (outputs_run first (record { solution = texts.solution; report = r; history = other.history }) ended2 out lines kept) tt result) b
    (subst (λ (e : Result Status CliFault). IsResultOf (outputs_run first (record { solution = texts.solution; report = texts.report; history = other.history }) e out lines kept) tt result) d
    (other_history first out lines kept texts other.history ended result c written))))

-- nothing was written
pub outputs_untouched : (is_first : Bool) (texts : Outputs) (ended : Result Status CliFault) (out lines : Writing) (kept : Option Keeping) → Keeps out.before out.after → Keeps lines.before lines.after
    → (keep_step kept texts.history).IsUntouched → (outputs_run is_first texts ended out lines kept).IsUntouched
outputs_untouched false texts ended out lines kept p q r = ((p, q), (r, tt))
outputs_untouched true texts ended out lines kept p q r = (r, ((p, q), tt))

-- ---- what a run of them shows

pub same_text : (before after : Option (List ℕ)) (text other : List ℕ) → IsSome before → Appends before after text → Appends before after other → text ≡ other
same_text None after text other tells p q = absurd (false≢true tells)
same_text (Some xs) None text other tells p q = absurd p
same_text (Some xs) (Some ys) text other tells p q = append_cancel_left xs text other (sym p ∙ q)

-- a device that tells its bytes shows that it was given some
pub shown : (device : Writing) (text : List ℕ) → IsSome device.before → 0 < length text → Appends device.before device.after text → device.failed ≡ false → Keeps device.before device.after → ⊥
shown device text tells some appended sound kept =
    write-shown device (λ (xs : List ℕ). xs) (λ xs. Fine) text tells some Fine (refl, appended, λ more. sound) kept

-- an output that can't be written has failed
not_kept : (text : List ℕ) (before after : OutputState) → HasNotKept text before after → has_failed after ≡ true
not_kept text (stream held had) (stream holds failed) p = p.1
not_kept text (file stood had) (file stands failed) p = p.1
not_kept text (stream held had) (file stands failed) p = absurd p
not_kept text (file stood had) (stream holds failed) p = absurd p

module _ (kept : Option Keeping) (text : List ℕ) where
  pub whole_if : (keep_step kept text).Gives tt tt → HasWhole kept text
  whole_if = by kept
    where
      by : (k : Option Keeping) → (keep_step k text).Gives tt tt → HasWhole k text
      by None p = tt
      by (Some device) p = p.1

  failed_if : (fault : CliFault) → (keep_step kept text).Fails tt fault → (fault ≡ cli.CannotWrite) × (has_failed_if kept ≡ true)
  failed_if = by kept
    where
      by : (k : Option Keeping) (fault : CliFault) → (keep_step k text).Fails tt fault → (fault ≡ cli.CannotWrite) × (has_failed_if k ≡ true)
      by None fault p = absurd p
      by (Some device) fault p = (p.0, not_kept text device.before device.after p.1)

  left_if : (keep_step kept text).IsUntouched → IsLeft kept
  left_if = by kept
    where
      by : (k : Option Keeping) → (keep_step k text).IsUntouched → IsLeft k
      by None p = tt
      by (Some device) p = p

-- ---- the outputs

module _ (out lines : Writing) (kept : Option Keeping) where
  abbrev pub AllWritten : Outputs → Type 0
  AllWritten texts =
      Appends out.before out.after texts.solution × Appends lines.before lines.after texts.report × (0 < length texts.report → lines.failed ≡ false) × HasWhole kept texts.history

  abbrev AreBothWritten : Outputs → Type 0
  AreBothWritten texts = Appends out.before out.after texts.solution × Appends lines.before lines.after texts.report × (0 < length texts.report → lines.failed ≡ false)

  module _ (texts : Outputs) (ended : Result Status CliFault) where
    both : (streams_step texts out lines).Gives tt tt → AreBothWritten texts
    both (a, p, q) = (p.1, q.1, q.2)

    both_failed : (fault : CliFault) → (streams_step texts out lines).Fails tt fault → (fault ≡ cli.CannotWrite) × HasFailed out lines kept
    both_failed fault (inl (p, left)) = (p.0, inl p.2)
    both_failed fault (inr (a, p, q)) = (q.0, inr (inl q.2))

    kept_failed : (fault : CliFault) → (keep_step kept texts.history).Fails tt fault → (fault ≡ cli.CannotWrite) × HasFailed out lines kept
    kept_failed fault p = let failed = failed_if kept texts.history fault p in (failed.0, inr (inr failed.1))

    all_of : AreBothWritten texts → HasWhole kept texts.history → AllWritten texts
    all_of p q = (p.0, p.1, p.2, q)

    pub outputs_given : (is_first : Bool) (status : Status) → (outputs_run is_first texts ended out lines kept).Gives tt status → (ended ≡ Ok status) × AllWritten texts
    outputs_given false status (a, p, (b, q, is)) = (is, all_of (both p) (whole_if kept texts.history q))
    outputs_given true status (a, p, (b, q, is)) = (is, all_of (both q) (whole_if kept texts.history p))

    -- a device failed; or all was written, and it ended so
    abbrev pub IsFailed : CliFault → Type 0
    IsFailed fault = ((fault ≡ cli.CannotWrite) × HasFailed out lines kept) ⊎ ((ended ≡ Err fault) × AllWritten texts)

    pub outputs_failed : (is_first : Bool) (fault : CliFault) → (outputs_run is_first texts ended out lines kept).Fails tt fault → IsFailed fault
    outputs_failed false fault (inl (p, left)) = inl (both_failed fault p)
    outputs_failed false fault (inr (a, p, inl (q, left))) = inl (kept_failed fault q)
    outputs_failed false fault (inr (a, p, inr (b, q, is))) = inr (is, all_of (both p) (whole_if kept texts.history q))
    outputs_failed true fault (inl (p, left)) = inl (kept_failed fault p)
    outputs_failed true fault (inr (a, p, inl (q, left))) = inl (both_failed fault q)
    outputs_failed true fault (inr (a, p, inr (b, q, is))) = inr (is, all_of (both q) (whole_if kept texts.history p))

    pub outputs_left : (is_first : Bool) → (outputs_run is_first texts ended out lines kept).IsUntouched → IsUnwritten out lines kept
    outputs_left false ((p, q), (r, rest)) = (p, q, left_if kept texts.history r)
    outputs_left true (r, ((p, q), rest)) = (p, q, left_if kept texts.history r)
