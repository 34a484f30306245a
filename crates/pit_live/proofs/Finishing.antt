-- What stands once all sessions have ended, and before.
use Rattle.std.proofs.Common.{◌≡◌, ◌⊎◌, inl, inr, ℕ, Bool, true, false, List, length, Option, Some, None, Result, Ok, Err, MatchResult, IfSome, refl, sym, subst}
use Rattle.std.specs.Prelude.{IfOk, IfErr}
use Rattle.pit_model.specs.Pit.{Pit}
use Rattle.pit_desk.specs.History.{Answered}
use Rattle.pit_desk.specs.State.{State}
use Rattle.pit_desk.specs.declared.entry.TheConstants.{ENTRIES_MAX}
use Rattle.pit_file.specs.Kept.{latest}
use Rattle.pit_file.specs.Stood.{with_text}
use Rattle.pit_journal.specs.Journals.{journal_text, Tells}
use Rattle.pit_share.specs.Planners.{PlannerState}
use Rattle.pit_share.specs.Closing.{IsClosed, IsCloseError}
use Rattle.pit_share.specs.declared.error.CloseError.{CloseError}
use Rattle.pit_step.specs.declared.fault.CliFault.{CliFault}
use Rattle.pit_step.specs.declared.fault.CliFault.TheVariants.{NoMemory, NotClosed}
use Rattle.pit_step.specs.declared.status.Status.{Status}
use Rattle.pit_step.specs.Devices.{writing_of}
use Rattle.pit_live.specs.LiveFiles.{FileKnown, IsKept}
use Rattle.pit_live.specs.Sat.{AllSat}
use Rattle.pit_live.specs.Live.{Carried, carrying, Lived, HasLived, IsUntoldFault, IsTold, IsLiveEnd, IsSeatedFault}
use Rattle.pit_live.specs.Inside.Sessions.{KnowsAll, IsReported}
use Rattle.pit_live.specs.declared.sitting.Sitting.{Sitting}
use Rattle.pit_live.proofs.Telling.{live_ended, live_wants}

-- a file that is kept open with the text of the opening history tells it
latest_text : (text : List ℕ) (stood : Option (List (Option (List ℕ)))) → IfSome (latest (with_text text stood)) (λ t. t ≡ text)
latest_text text None = tt
latest_text text (Some before) = refl

pub kept_tells : (text : List ℕ) (opening : List Answered) (before after : FileKnown) → text ≡ journal_text opening → IsKept text before after
    → Tells (latest after.stood) opening × Tells after.synced opening
kept_tells text opening before after is kept =
    let there = subst (λ (o : Option (List (Option (List ℕ)))). IfSome (latest o) (λ t. t ≡ text)) (sym kept.stood) (latest_text text before.stood) in
    let told = subst (λ (h : List ℕ). IfSome (latest after.stood) (λ t. t ≡ h)) is there in
    (told, subst (λ (o : Option (List ℕ)). Tells o opening) (sym kept.synced) told)

-- what is known is all of the history, and the file tells it
filed_by : (known : Option (List Answered)) (history : List Answered) (file : FileKnown) → KnowsAll known history
    → IfSome known (λ k. Tells (latest file.stood) k × Tells file.synced k) → Tells (latest file.stood) history × Tells file.synced history
filed_by None history file all told = absurd all
filed_by (Some k) history file all told = subst (λ (h : List Answered). Tells (latest file.stood) h × Tells file.synced h) all told

module _ (pit : Pit) (opening : List Answered) (max_entries planners : ℕ) (most : max_entries ≡ ENTRIES_MAX) (logs : List PlannerState) (sittings : List Sitting)
    (sat : AllSat pit max_entries opening 1 logs sittings) where
  pub has_lived : (notices : List ℕ) (file : FileKnown) (desk : State) (known : Option (List Answered)) (is_all is_filed : Bool) → length sittings ≡ planners
      → IsClosed pit opening max_entries planners logs desk → (is_all ≡ true → KnowsAll known desk.history) → (is_filed ≡ true → is_all ≡ true)
      → IfSome known (λ k. Tells (latest file.stood) k × Tells file.synced k)
      → HasLived (carrying pit opening planners notices) file (record { desk = desk; sittings = sittings; is_filed = is_filed })
  has_lived notices file desk known is_all is_filed many closed all filed told = record {
    sat = record {
      logs = logs;
      closed = subst (λ (n : ℕ). IsClosed pit opening n planners logs desk) most closed;
      many = many;
      sat = subst (λ (n : ℕ). AllSat pit n opening 1 logs sittings) most sat;
    };
    filed = λ is. let both = filed_by known desk.history file (all (filed is)) told in record { written = both.0; synced = both.1 };
  }

  pub not_lived : (notices : List ℕ) (file : FileKnown) (fault : CliFault) → ((fault ≡ NotClosed) × ((cause : CloseError) × IsCloseError pit opening max_entries planners logs cause))
      → IsUntoldFault (carrying pit opening planners notices) file fault
  not_lived notices file fault (is, found) = subst (λ (f : CliFault). IsUntoldFault (carrying pit opening planners notices) file f) (sym is) (record {
    logs = logs;
    sittings = sittings;
    sat = subst (λ (n : ℕ). AllSat pit n opening 1 logs sittings) most sat;
    cause = found.0;
    refused = subst (λ (n : ℕ). IsCloseError pit opening n planners logs found.0) most found.1;
  })

-- how it ends, once that was told or not
pub told_end : (carried : Carried) (file : FileKnown) (lived : Lived) (was_told : Bool) (a b c : Option (List ℕ)) (had_failed failed : Bool) (Same : Type 0) (result : Result Status CliFault)
    → HasLived carried file lived → IsTold (writing_of a b had_failed) carried.notices was_told
    → (Same → (c ≡ b) × (failed ≡ had_failed)) → (was_told ≡ false → Same)
    → IfOk result (λ status. IsReported lived was_told (writing_of b c failed) (Ok status))
    → IfErr result (λ fault. ((fault ≡ NoMemory) × Same) ⊎ IsReported lived was_told (writing_of b c failed) (Err fault))
    → MatchResult result (λ status. IsLiveEnd carried file (writing_of a c failed) (Ok status)) (IsSeatedFault carried file (writing_of a c failed))
told_end carried file lived was_told a b c had_failed failed Same (Ok status) has before same silent ok err =
    live_ended a b c had_failed failed carried file lived was_told (Ok status) has before (λ none. same (silent none)) ok
told_end carried file lived was_told a b c had_failed failed Same (Err fault) has before same silent ok (inl (wants, is)) =
    inl (live_wants a b c had_failed failed carried file lived was_told fault has before wants (same is).0 (same is).1)
told_end carried file lived was_told a b c had_failed failed Same (Err fault) has before same silent ok (inr reported) =
    inr (live_ended a b c had_failed failed carried file lived was_told (Err fault) has before (λ none. same (silent none)) reported)

-- where it isn't said that all is known, nothing has to be
pub never_all : (known : Option (List Answered)) (result : Result (State × Bool) CliFault) → IfOk result (λ made. made.1 ≡ true → ⊥)
    → IfOk result (λ made. made.1 ≡ true → KnowsAll known made.0.history)
never_all known (Ok made) never = λ is. absurd (never is)
never_all known (Err fault) never = tt
