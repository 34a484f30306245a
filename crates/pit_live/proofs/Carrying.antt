-- The run of `live`, step by step.
use Rattle.std.proofs.Common.{◌≡◌, ◌⊎◌, inl, inr, ℕ, List, length, Result, Ok, MatchResult, refl, subst}
use Rattle.std.proofs.lemmas.Result.{MatchResult-weaker}
use Rattle.std.specs.Io.KnownBytes.{Keeps}
use Rattle.pit_model.specs.Pit.{Pit}
use Rattle.pit_desk.specs.History.{Answered, commits_of}
use Rattle.pit_desk.specs.State.{State}
use Rattle.pit_step.specs.declared.fault.CliFault.{CliFault}
use Rattle.pit_step.specs.declared.fault.CliFault.TheVariants.{NoMemory, NoPlace}
use Rattle.pit_step.specs.declared.status.Status.{Status}
use Rattle.pit_step.specs.Devices.{Writing}
use Rattle.pit_step.specs.Steps.{IsResultOf}
use Rattle.pit_opening.specs.Openings.{IsDeskOn}
use Rattle.pit_live.specs.LiveStarts.{LiveStart}
use Rattle.pit_live.specs.LiveFiles.{FileKnown}
use Rattle.pit_live.specs.Notices.{notices_text}
use Rattle.pit_live.specs.Live.{Filing, filing_of, Carried, carrying, carried_step, IsLiveEnd, IsSeatedFault, IsLiveFault, live_run}

-- on the desk that is opened
pub run_on : (start : LiveStart) (planners : ℕ) (file : Filing) (lines : Writing) (desk : State) (result : Result Status CliFault) → IsDeskOn start.pit start.opening desk
    → IsResultOf (carried_step (carrying desk.plan.pit desk.history planners (notices_text start.is_new start.cut planners (length (commits_of desk.history)) (length desk.history))) file lines) tt result
    → IsResultOf (live_run start planners file lines) tt result
run_on start planners file lines desk result on run =
    let here = subst (λ (p : Pit). IsResultOf (carried_step (carrying p desk.history planners (notices_text start.is_new start.cut planners (length (commits_of desk.history)) (length desk.history))) file lines) tt result)
    on.same_pit run in
    let there = subst (λ (es : List Answered). IsResultOf (carried_step (carrying start.pit es planners (notices_text start.is_new start.cut planners (length (commits_of es)) (length es))) file lines) tt result)
    on.history here in
    MatchResult-weaker result there (λ status end. (tt, on.is_good, end)) (λ fault fails. inr (tt, on.is_good, fails))

-- nobody sat down, and the file stays as it is
pub unseated : (carried : Carried) (file : FileKnown) (lines : Writing) (fault : CliFault) → ((fault ≡ NoMemory) ⊎ (fault ≡ NoPlace)) → Keeps lines.before lines.after
    → IsLiveFault carried (filing_of file file) lines fault
unseated carried file lines fault why left = inl (inl (why, refl), left)

-- planners sat down
pub seated : (carried : Carried) (file : Filing) (lines : Writing) (result : Result Status CliFault)
    → MatchResult result (λ status. IsLiveEnd carried file.after lines (Ok status)) (IsSeatedFault carried file.after lines)
    → IsResultOf (carried_step carried file lines) tt result
seated carried file lines result run = MatchResult-weaker result run (λ status end. end) (λ fault fails. inr fails)
