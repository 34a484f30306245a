-- What `live` does.
use Rattle.std.specs.Prelude.{◌≡◌, ◌⊎◌, ℕ, ◌<◌, Bool, true, false, ◌&&◌, List, ◌++◌, length, Result, Ok, Err}
use Rattle.std.specs.Io.KnownBytes.{Appends, Keeps}
use Rattle.pit_num.specs.Printed.{AppendsFront}
use Rattle.pit_model.specs.Pit.{Pit}
use Rattle.pit_plan.specs.Schedule.{held_period}
use Rattle.pit_plan.specs.Shortfalls.{shortfalls_of}
use Rattle.pit_desk.specs.History.{Answered, commits_of}
use Rattle.pit_desk.specs.State.{State}
use Rattle.pit_desk.specs.declared.entry.TheConstants.{ENTRIES_MAX}
use Rattle.pit_file.specs.Kept.{latest}
use Rattle.pit_journal.specs.Journals.{journal_text, Tells}
use Rattle.pit_share.specs.Planners.{PlannerState}
use Rattle.pit_share.specs.Closing.{IsCloseError}
use Rattle.pit_share.specs.declared.error.CloseError.{CloseError}
use Rattle.pit_step.specs.declared.fault.CliFault.{CliFault}
use Rattle.pit_step.specs.declared.fault.CliFault.TheVariants.{NoMemory, NoPlace, NotClosed}
use Rattle.pit_step.specs.declared.status.Status.{Status}
use Rattle.pit_step.specs.Steps.{Step, in_turn, judge_step}
use Rattle.pit_step.specs.Devices.{Writing}
use Rattle.pit_opening.specs.Openings.{entries_before, IsGoodOpening, IsDeskFault}
use Rattle.pit_live.specs.LiveStarts.{LiveStart}
use Rattle.pit_live.specs.LiveFiles.{FileKnown, IsUnkeptFile}
use Rattle.pit_live.specs.Notices.{notices_text}
use Rattle.pit_live.specs.Sat.{AllSat, IsLived}
use Rattle.pit_live.specs.Sittings.{live_report, live_end}
use Rattle.pit_live.specs.declared.sitting.Sitting.{Sitting}

-- what is known of the history's file before and after a call
pub record Filing : Type 0 where
  pub before : FileKnown
  pub after : FileKnown

abbrev pub filing_of : FileKnown → FileKnown → Filing
filing_of before after = record { before = before; after = after }

-- a pit, the history that is carried on, so many planners, and what standard error is told of these
pub record Carried : Type 0 where
  pub pit : Pit
  pub opening : List Answered
  pub planners : ℕ
  pub notices : List ℕ

abbrev pub carrying : Pit → List Answered → ℕ → List ℕ → Carried
carrying pit opening planners notices = record { pit = pit; opening = opening; planners = planners; notices = notices }

abbrev pub carried_of : LiveStart → ℕ → Carried
carried_of start planners =
    let es = entries_before start.opening in carrying start.pit es planners (notices_text start.is_new start.cut planners (length (commits_of es)) (length es))

-- ---- the sessions

-- the file has the text of the history in format 2, and all of it is synced
pub record IsFiled (history : List Answered) (file : FileKnown) : Type 0 where
  pub written : Tells (latest file.stood) history
  pub synced : Tells file.synced history

-- the desk of the closed workspace, how each session ended, and whether the file has all of the history
pub record Lived : Type 0 where
  pub desk : State
  pub sittings : List Sitting
  pub is_filed : Bool

-- each planner had a session behind the history that is carried on
pub record HasLived (carried : Carried) (file : FileKnown) (lived : Lived) : Type 0 where
  pub sat : IsLived carried.pit carried.opening ENTRIES_MAX carried.planners lived.desk lived.sittings
  pub filed : lived.is_filed ≡ true → IsFiled lived.desk.history file

-- the logs of planners who had their sessions don't close the workspace
pub record NotLived (carried : Carried) : Type 0 where
  pub logs : List PlannerState
  pub sittings : List Sitting
  pub sat : AllSat carried.pit ENTRIES_MAX carried.opening 1 logs sittings
  pub cause : CloseError
  pub refused : IsCloseError carried.pit carried.opening ENTRIES_MAX carried.planners logs cause

-- ---- what is told

-- a text is told; or a front of it, before the device fails
abbrev pub IsTold : Writing → List ℕ → Bool → Type 0
IsTold lines text true = Appends lines.before lines.after text × (0 < length text → lines.failed ≡ false)
IsTold lines text false = AppendsFront lines.before lines.after text × (lines.failed ≡ true)

abbrev pub report_of : Carried → Lived → List ℕ
report_of carried lived = live_report carried.pit (commits_of lived.desk.history) lived.sittings

abbrev pub end_of : Carried → Lived → Bool → Result Status CliFault
end_of carried lived is_told =
    live_end (lived.is_filed && is_told) lived.sittings (shortfalls_of carried.pit (held_period (commits_of lived.desk.history)))

-- the sessions ended, that was told, and so it ends
pub record IsLiveEnd (carried : Carried) (file : FileKnown) (lines : Writing) (result : Result Status CliFault) : Type 0 where
  pub lived : Lived
  pub has : HasLived carried file lived
  pub is_told : Bool
  pub told : IsTold lines (carried.notices ++ report_of carried lived) is_told
  pub ended : result ≡ end_of carried lived is_told

-- ---- faults

-- memory runs out or a place can't be had, and the file stays as it is; or it can't be replaced and kept open
abbrev pub IsUnseatedFault : Carried → Filing → CliFault → Type 0
IsUnseatedFault carried file fault =
    (((fault ≡ NoMemory) ⊎ (fault ≡ NoPlace)) × (file.after ≡ file.before)) ⊎ IsUnkeptFile (journal_text carried.opening) file.before file.after fault

-- the sessions ended, and there is no memory for the report, or the workspace isn't closed
abbrev pub IsUntoldFault : Carried → FileKnown → CliFault → Type 0
IsUntoldFault carried file NoMemory = (lived : Lived) × HasLived carried file lived
IsUntoldFault carried file NotClosed = NotLived carried
IsUntoldFault carried file other = ⊥

pub record IsUntold (carried : Carried) (file : FileKnown) (lines : Writing) (fault : CliFault) : Type 0 where
  pub why : IsUntoldFault carried file fault
  pub is_told : Bool
  pub told : IsTold lines carried.notices is_told

abbrev pub IsSeatedFault : Carried → FileKnown → Writing → CliFault → Type 0
IsSeatedFault carried file lines fault = IsUntold carried file lines fault ⊎ IsLiveEnd carried file lines (Err fault)

-- before planners sat down nothing is told
abbrev pub IsLiveFault : Carried → Filing → Writing → CliFault → Type 0
IsLiveFault carried file lines fault =
    (IsUnseatedFault carried file fault × Keeps lines.before lines.after) ⊎ IsSeatedFault carried file.after lines fault

-- ---- the run

-- nothing is written
abbrev pub IsLeftAlone : Filing → Writing → Type 0
IsLeftAlone file lines = (file.after ≡ file.before) × Keeps lines.before lines.after

abbrev pub carried_step : Carried → Filing → Writing → Step CliFault (Unit {0}) Status
carried_step carried file lines = record {
  Gives = λ given status. IsLiveEnd carried file.after lines (Ok status);
  Fails = λ given. IsLiveFault carried file lines;
  IsUntouched = IsLeftAlone file lines;
}

-- each limit of the pit can be met, and the history is legal
abbrev pub good_step : LiveStart → Step CliFault (Unit {0}) (Unit {0})
good_step start = judge_step (λ given value. IsGoodOpening start.pit start.opening) (λ given. IsDeskFault start.pit start.opening)

-- the desk is opened; then the file is replaced and kept open, standard error is told, planners sit down, and how that ended is told
abbrev pub live_run : LiveStart → ℕ → Filing → Writing → Step CliFault (Unit {0}) Status
live_run start planners file lines = in_turn (good_step start) (carried_step (carried_of start planners) file lines)
