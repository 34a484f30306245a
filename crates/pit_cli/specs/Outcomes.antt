-- What the texts of a plan decide alone, and what its answer says.
use Rattle.std.specs.Prelude.{◌≡◌, ◌⊎◌, ℕ, ◌+◌, Bool, true, false, List, length, drop, slice_get, Option, Some, Result, Ok, Err, All, ⊤}
use Rattle.std.specs.Io.KnownBytes.{Appends}
use Rattle.pit_plan.specs.Schedule.{held_period, value_of}
use Rattle.pit_desk.specs.History.{commits_of}
use Rattle.pit_desk.specs.OneThread.{IsOfOneThread}
use Rattle.pit_desk.specs.State.{State}
use Rattle.pit_desk.specs.declared.entry.TheConstants.{ENTRIES_MAX}
use Rattle.pit_script.specs.Jobs.{Job}
use Rattle.pit_share.specs.GoingOn.{GoesOn}
use Rattle.pit_share.specs.Logs.{entries_of}
use Rattle.pit_run.specs.Laws.{IsOneByOne, IsServed}
use Rattle.pit_run.specs.Reports.{RunState, RanScript}
use Rattle.pit_run.specs.Turns.{IsInTurn, HadTurns}
use Rattle.pit_step.specs.Devices.{Writing}
use Rattle.pit_step.specs.declared.status.Status.{Status}
use Rattle.pit_step.specs.declared.fault.CliFault.{CliFault}
use Rattle.pit_step.specs.declared.fault.CliFault.TheVariants.{Stopped}
use Rattle.pit_step.specs.Statuses.{fault_status}
use Rattle.pit_opening.specs.Beginnings.{is_unbegun}
use Rattle.pit_opening.specs.Openings.{Opened, entries_before, IsGoodOpening}
use Rattle.pit_cli.specs.declared.plan_options.PlanOptions.{PlanOptions}
use Rattle.pit_cli.specs.Texts.{Texts, Setup, texts_judged}
use Rattle.pit_cli.specs.Planning.{Ran, plan_judged, IsRan}
use Rattle.pit_output.specs.Outputs.{Keeping, HasWhole}
use Rattle.pit_cli.specs.Output.{outputs_of, ran_end, IsKeptInRange}

-- ---- by the texts alone

-- they stand for a pit, a beginning that breaks no rule, and as many scripts as there may be planners
abbrev pub MayRun : Texts → Type 0
MayRun texts = (setup : Setup) × (plan_judged texts).Gives tt setup

-- the first fault of the texts, of the limits, of the beginning or of the number of planners; only these are looked at
abbrev pub AreRefused : Texts → CliFault → Type 0
AreRefused texts fault = (plan_judged texts).Fails tt fault × (fault_status fault ≡ 2)

-- the answer says how the planners ended, or that the texts are refused, and not that memory or a place couldn't be had, or that something failed
abbrev pub IsDecisive : Result Status CliFault → Type 0
IsDecisive (Ok status) = ⊤
IsDecisive (Err fault) = (fault ≡ Stopped) ⊎ (fault_status fault ≡ 2)

-- ---- what was written

-- A run of the texts ended so, and all of it was written. Where the history was, its numbers are in the ranges of their types.
pub record IsWritten (texts : Texts) (options : PlanOptions) (out lines : Writing) (kept : Option Keeping) (result : Result Status CliFault) : Type 0 where
  pub setup : Setup
  pub ran : Ran
  pub judged : (plan_judged texts).Gives tt setup
  pub run : IsRan setup options ran
  pub range : IsKeptInRange kept ran.0.history
  pub ended : result ≡ ran_end options.is_strict ran
  pub solution : Appends out.before out.after (outputs_of (is_unbegun texts.beginning) ran).solution
  pub report : Appends lines.before lines.after (outputs_of (is_unbegun texts.beginning) ran).report
  pub sound : lines.failed ≡ false
  pub history : HasWhole kept (outputs_of (is_unbegun texts.beginning) ran).history

-- The history is one of one thread on the pit of the texts. It goes on from what they begin with, and may have as many entries as a history can: each
-- entry behind that is of one of the planners, and noted one snapshot of it, unless its start is past the commits before it. Each of these that was
-- committed is a job of a planner's script, done on the schedule that the entries before it leave; and each planner's entries and outcomes are those of
-- its script. Where planners take turns, their entries stand in the order of their numbers, and each began behind all that the one before left.
pub record IsOneHistory (texts : Texts) (options : PlanOptions) (closed : State) (runs : List RunState) : Type 0 where
  pub opening : Opened
  pub scripts : List (List Job)
  pub stand : (texts_judged texts).Gives tt ((closed.plan.pit, opening), scripts)
  pub good_opening : IsGoodOpening closed.plan.pit opening
  pub goes_on : GoesOn closed.plan.pit (entries_before opening) ENTRIES_MAX (length scripts) closed
  pub one_thread : IsOfOneThread closed.plan.pit closed.history (value_of closed.plan.pit (held_period (commits_of closed.history)))
  pub one_by_one : IsOneByOne closed.plan.pit (length (entries_before opening)) scripts closed.history
  pub turns : options.is_in_turn ≡ true → IsInTurn (length scripts) (entries_before opening) closed.history
  pub had_turns : options.is_in_turn ≡ true → HadTurns closed.plan.pit ENTRIES_MAX options.retries (entries_before opening) closed.history scripts runs
  pub each : (place : ℕ) (script : List Job) → slice_get scripts place ≡ Some script → (run : RunState) × (slice_get runs place ≡ Some run)
      × RanScript closed.plan.pit ENTRIES_MAX options.retries (entries_before opening) closed.history script (1 + place) (entries_of (1 + place) (drop (length (entries_before opening)) closed.history)) run

-- what was written is that of one such history
pub record IsOfOneHistory (texts : Texts) (options : PlanOptions) (out lines : Writing) (kept : Option Keeping) (result : Result Status CliFault) : Type 0 where
  pub written : IsWritten texts options out lines kept result
  pub one_history : IsOneHistory texts options written.ran.0 written.ran.1

-- they were written of planners in turn, none of whom stopped for want of memory or of a place at the board
pub record AreTurnsWritten (texts : Texts) (options : PlanOptions) (out lines : Writing) (kept : Option Keeping) (result : Result Status CliFault) : Type 0 where
  pub written : IsWritten texts options out lines kept result
  pub in_turn : options.is_in_turn ≡ true
  pub served : All (λ run. IsServed run.ended) written.ran.1

-- the same is written of two runs, but for what the history says of the order in which blocks were noted, and they end alike
pub record AreWrittenAlike (is_new : Bool) (ran other : Ran) (result again : Result Status CliFault) : Type 0 where
  pub solution : (outputs_of is_new ran).solution ≡ (outputs_of is_new other).solution
  pub report : (outputs_of is_new ran).report ≡ (outputs_of is_new other).report
  pub ended : result ≡ again
